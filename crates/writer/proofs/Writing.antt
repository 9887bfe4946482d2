-- The law of every loop that writes the lines of items, one item after the other.
use mathlib.Core.Path.{◌≡◌, refl, ap, ◌∙◌}
use mathlib.Core.List.{List, [], ◌++◌}
use Prim.Native.Nat.{ℕ, ◌+◌, ◌*◌, ◌≤◌, ◌<◌}
use native.Mathlib.Nat.{suc-mul, mul-le-mul_right}
use native.Mathlib.Numerals.{add-one}
use native.Mathlib.Omega.{arith}
use lib.ListN.{length}
use Rattle.layout.specs.Text.{unlines}
use Rattle.readback.proofs.Growing.{Growing, growing_none, growing_next}
use Rattle.digits.specs.declared.Writer.{Writer}
use Rattle.digits.specs.Appends.{Appends}
use Rattle.digits.proofs.Appending.{appends_none, appends_then, appends_same}

-- The text of the first n of m items, each of at most k bytes, has been written by the writer w, which is now v. There is room for all, and for z bytes
-- more. The text may depend on what the loop does not look at, i.
pub record Writing {I : Type 0} (text : I → ℕ → List ℕ) (m k z : ℕ) (w v : Writer) (n : ℕ) : Type 0 where
  pub begun : w.at + m * k + z ≤ length w.out.now
  pub room : v.at ≤ w.at + n * k
  pub long : length v.out.now ≡ length w.out.now
  pub same : v.out.ghost_name ≡ w.out.ghost_name
  pub appends : (i : I) → Appends w (text i n) v

module _ {I : Type 0} (text : I → ℕ → List ℕ) (m k z : ℕ) where
  pub writing_starts : (w : Writer) → ((i : I) → [] ≡ text i 0) → w.at + m * k + z ≤ length w.out.now → Writing text m k z w w 0
  writing_starts w none h = record {
    begun = h;
    room = omega arith;
    long = refl;
    same = refl;
    appends = λ i. appends_same (appends_none w) (none i);
  }

  module _ {w v : Writer} {n : ℕ} (W : Writing text m k z w v n) where
    module _ (lt : n < m) where
      next-within : n * k + k ≤ m * k
      next-within = omega (arith, suc-mul n k, mul-le-mul_right k lt)

      -- There is room for the next item, and for z bytes more.
      pub writing_room : v.at + k + z ≤ length v.out.now
      writing_room = omega (arith, W.room, W.begun, W.long, next-within)

      -- It is written.
      pub writing_more : {xs : List ℕ} {u : Writer} → length xs ≤ k → ((i : I) → text i n ++ xs ≡ text i (n + 1)) → Appends v xs u
          → Writing text m k z w u (n + 1)
      writing_more {xs} few more a = record {
        begun = W.begun;
        room = omega (arith, a.puts.place, W.room, ap (λ (j : ℕ). j * k) (add-one n), suc-mul n k);
        long = a.long ∙ W.long;
        same = a.same ∙ W.same;
        appends = λ i. appends_same (appends_then (W.appends i) a (omega (arith, (W.appends i).puts.place, W.room, W.begun, next-within))) (more i);
      }

    pub writing_ends : n ≡ m → (i : I) → Appends w (text i m) v
    writing_ends e i = appends_same (W.appends i) (ap (text i) e)

-- ---- lines that grow item by item, where the text depends on nothing else

abbrev pub LinesWriting : (ℕ → List (List ℕ)) → ℕ → ℕ → ℕ → Writer → Writer → ℕ → Type 0
LinesWriting up_to = Writing (λ (i : Unit {0}) n. unlines (up_to n))

module _ {of up_to : ℕ → List (List ℕ)} (G : Growing of up_to) (m k z : ℕ) where
  pub lines_start : (w : Writer) → w.at + m * k + z ≤ length w.out.now → LinesWriting up_to m k z w w 0
  lines_start w h = writing_starts (λ i n. unlines (up_to n)) m k z w (λ i. growing_none G) h

  module _ {w v : Writer} {n : ℕ} (W : LinesWriting up_to m k z w v n) where
    pub lines-room : n < m → v.at + k + z ≤ length v.out.now
    lines-room lt = writing_room (λ i n. unlines (up_to n)) m k z W lt

    pub lines_more : n < m → length (unlines (of n)) ≤ k → {u : Writer} → Appends v (unlines (of n)) u → LinesWriting up_to m k z w u (n + 1)
    lines_more lt few = writing_more (λ i n. unlines (up_to n)) m k z W lt few (λ i. growing_next G n)

    pub lines_end : n ≡ m → Appends w (unlines (up_to m)) v
    lines_end e = writing_ends (λ i n. unlines (up_to n)) m k z W e tt
