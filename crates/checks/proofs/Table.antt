-- Laws of the table of ends: it starts empty, an edge that is noted keeps it, and a flag is whether an earlier edge has these ends.
use Prim.Native.Nat.{ℕ, ◌+◌, ◌<◌}
use mathlib.Core.Path.{◌≡◌, refl, sym, ap, ap₂, ◌∙◌}
use mathlib.Core.Bool.{Bool, true, false, cond, ◌&&◌, ◌||◌, or-true, or-false, and-false}
use mathlib.Core.List.{List, [], ◌∷◌, ◌++◌}
use native.Mathlib.Omega.{arith}
use native.Mathlib.Decide.{ℕ_discrete}
use lib.Dec.{eqb}
use lib.ListN.{length, get_or, set, length-set, replicate, length-replicate, get_or-replicate, get_or-append}
use lib.Seq.{get_or-set_same, get_or-set_other, get_or_at}
use borrow.Author.Tests.{eq-eqb, ne_eqb}
use Rattle.graph.proofs.Passing.{some_cong, some_next}
use Rattle.checks.specs.Checks.{Flagged, flag_place, table_flags, joined_in, Seen}

-- Edge e has row r and column c.
abbrev pub joins_in : List ℕ → List ℕ → ℕ → ℕ → ℕ → Bool
joins_in row column r c e = eqb (get_or row e 0) r && eqb (get_or column e 0) c

-- A flag is one of the table's.
pub flag_within : {r c : ℕ} → Flagged r → Flagged c → flag_place r c < table_flags
flag_within p q = omega arith

-- Two flags at one place are of the same ends.
pub flag_ends : (r c s d : ℕ) → Flagged r → Flagged c → Flagged s → Flagged d → flag_place r c ≡ flag_place s d → (r ≡ s) × (c ≡ d)
flag_ends r c s d p q p' q' e = omega arith

-- An edge has the ends of no other flag than its own.
pub flag_other : (row column : List ℕ) (n : ℕ) {r c : ℕ} → get_or row n 0 ≡ r → get_or column n 0 ≡ c → (s d : ℕ) → (flag_place s d ≡ flag_place r c → ⊥) →
    joins_in row column s d n ≡ false
flag_other row column n row_is column_is s d e = elim (ℕ_discrete (get_or row n 0) s) [
  | yes i ↦ elim (ℕ_discrete (get_or column n 0) d) [
    | yes j ↦ absurd (e (ap₂ flag_place (sym i ∙ row_is) (sym j ∙ column_is)))
    | no j ↦ ap (λ (a : Bool). eqb (get_or row n 0) s && a) (ne_eqb _ _ j) ∙ and-false (eqb (get_or row n 0) s)
  ]
  | no i ↦ ap (λ (a : Bool). a && eqb (get_or column n 0) d) (ne_eqb _ _ i)
]

-- An empty table, before the first edge.
pub seen_none : (flags row column : List ℕ) → length flags ≡ table_flags → ((k : ℕ) → k < table_flags → get_or flags k 0 ≡ 0) → Seen flags row column 0
seen_none flags row column l z = record { long = l; each = λ r c p q. z (flag_place r c) (flag_within p q) }

pub seen_start : (row column : List ℕ) → Seen (replicate table_flags 0) row column 0
seen_start row column = seen_none (replicate table_flags 0) row column (length-replicate {A = ℕ} table_flags 0) (λ k l. get_or-replicate table_flags k 0 0 l)

-- It looks at the ends of the first n edges only.
pub seen_cong : (flags row column row' column' : List ℕ) (n : ℕ) → ((e : ℕ) → e < n → (get_or row e 0 ≡ get_or row' e 0) × (get_or column e 0 ≡ get_or column' e 0)) →
    Seen flags row column n → Seen flags row' column' n
seen_cong flags row column row' column' n same S = record {
  long = S.long;
  each = λ r c p q.
      S.each r c p q
      ∙ ap (λ (b : Bool). cond b 1 0)
      (some_cong n (joins_in row column r c) (joins_in row' column' r c) (λ e l. ap₂ ◌&&◌ (ap (λ k. eqb k r) (same e l).0) (ap (λ k. eqb k c) (same e l).1)));
}

module _ {flags row column : List ℕ} {n : ℕ} (S : Seen flags row column n) where
  -- What the flag says.
  pub seen_flag : {r c : ℕ} → Flagged r → Flagged c → eqb (get_or flags (flag_place r c) 0) 1 ≡ joined_in row column n r c
  seen_flag {r} {c} p q = ap (λ k. eqb k 1) (S.each r c p q) ∙ go (joined_in row column n r c)
    where
      go : (b : Bool) → eqb (cond b 1 0) 1 ≡ b
      go true = refl
      go false = refl

  -- The next edge is noted.
  pub seen_note : (new : List ℕ) (r c : ℕ) → new ≡ set flags (flag_place r c) 1 → get_or row n 0 ≡ r → get_or column n 0 ≡ c → Flagged r → Flagged c →
      Seen new row column (n + 1)
  seen_note new r c set' row_is column_is p q = rw set' (record {
    long = length-set flags (flag_place r c) 1 ∙ S.long;
    each = λ s d p' q'.
        elim (ℕ_discrete (flag_place s d) (flag_place r c)) [
          | yes e ↦
              let same = flag_ends s d r c p' q' p q e in
              ap (λ k. get_or (set flags (flag_place r c) 1) k 0) e
              ∙ get_or-set_same flags (flag_place r c) 1 0 (omega (arith, flag_within p q, S.long))
              ∙ sym (ap (λ (b : Bool). cond b 1 0) (next s d (row_is ∙ sym same.0) (column_is ∙ sym same.1)))
          | no e ↦
              get_or-set_other flags (flag_place r c) (flag_place s d) 1 0 e
              ∙ S.each s d p' q'
              ∙ sym (ap (λ (b : Bool). cond b 1 0) (kept s d e))
        ];
  })
    where
      next : (s d : ℕ) → get_or row n 0 ≡ s → get_or column n 0 ≡ d → joined_in row column (n + 1) s d ≡ true
      next s d i j =
          some_next n (joins_in row column s d)
          ∙ ap (λ (a : Bool). joined_in row column n s d || a) (ap₂ ◌&&◌ (eq-eqb _ _ i) (eq-eqb _ _ j))
          ∙ or-true (joined_in row column n s d)

      kept : (s d : ℕ) → (flag_place s d ≡ flag_place r c → ⊥) → joined_in row column (n + 1) s d ≡ joined_in row column n s d
      kept s d e =
          some_next n (joins_in row column s d) ∙ ap (λ (a : Bool). joined_in row column n s d || a) (flag_other row column n row_is column_is s d e) ∙ or-false (joined_in row column n s d)

-- An edge is appended to n edges, and noted.
pub seen_append : {flags row column : List ℕ} (n : ℕ) (new : List ℕ) (r c : ℕ) → Seen flags row column n → new ≡ set flags (flag_place r c) 1 →
    length row ≡ n → length column ≡ n →
    Flagged r → Flagged c → Seen new (row ++ (r ∷ [])) (column ++ (c ∷ [])) (n + 1)
seen_append {flags} {row} {column} n new r c S put row_long column_long p q =
    seen_note
    (seen_cong flags row column (row ++ (r ∷ [])) (column ++ (c ∷ [])) n (λ e l. (before row r row_long e l, before column c column_long e l)) S)
    new r c put
    (get_or_at row r [] 0 n row_long)
    (get_or_at column c [] 0 n column_long)
    p
    q
  where
    before : (xs : List ℕ) (x : ℕ) → length xs ≡ n → (e : ℕ) → e < n → get_or xs e 0 ≡ get_or (xs ++ (x ∷ [])) e 0
    before xs x l e b = sym (get_or-append xs (x ∷ []) 0 e (omega arith))
