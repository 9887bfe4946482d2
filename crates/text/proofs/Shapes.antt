-- The cursor's next number and the words of the line, and lines of one, two and three numbers.
use Rattle.std.specs.Prelude.{Option, None, Some, option_map}
use mathlib.Core.Path.{◌≡◌, refl, sym, ap, ap₂, ◌∙◌}
use mathlib.Core.Bool.{Bool, cond}
use mathlib.Core.List.{List, [], ◌∷◌}
use Prim.Native.Nat.{ℕ, ◌-◌, ◌≤◌}
use native.Mathlib.Omega.{arith}
use lib.ListN.{length, take, drop, length-drop}
use lib.Seq.{take_all}
use lib.IntN.{ℤ}
use mir.Syntax.{w32}
use mir.Val.{SFits}
use Rattle.graph.proofs.Passing.{zero_one}
use Rattle.layout.specs.declared.Rules.{Rules}
use Rattle.layout.proofs.Digits.{absent}
use Rattle.numerals.specs.Numerals.{natural_empty}
use Rattle.numerals.proofs.Integers.{integer-fits}
use Rattle.layout.specs.Text.{blank, words, no_words, natural, integer, pair_of_options, all3, one_word, two_words, three_words}
use Rattle.text.specs.Cursor.{in_word, past, past_word, first_word, next}
use Rattle.text.specs.declared.Cursor.{Cursor}
use Rattle.text.proofs.Scans.{run-le}
use Rattle.text.proofs.Pieces.{Front, nothing, word, front}

-- A line from a place on, as the part that is lent.
pub rest_lent : (l : List ℕ) (at : ℕ) → take (length l - at) (drop at l) ≡ drop at l
rest_lent l at = take_all (length l - at) (drop at l) (omega (arith, length-drop at l))

past-le : (p : ℕ → Bool) (l : List ℕ) (at : ℕ) → at ≤ length l → past p l at ≤ length l
past-le p l at le = omega (arith, run-le p (drop at l), length-drop at l)

abbrev origin : Cursor
origin = record { at = 0; line = 0 }

-- A word that f reads as a stands at `at`, and e is the place after it.
pub record Took {A : Type 0} (f : List ℕ → Option A) (l : List ℕ) (at : ℕ) (a : A) (e : ℕ) : Type 0 where
  pub read : List ℕ
  pub ahead : words (drop at l) ≡ read ∷ words (drop e l)
  pub value : f read ≡ Some a
  pub inside : e ≤ length l

module _ {A : Type 0} (f : List ℕ → Option A) (l : List ℕ) (c : Cursor) where
  abbrev after : Cursor
  after = record { at = past_word l c.at; line = c.line }

  next_of : (w : List ℕ) → w ≡ first_word (words (drop c.at l)) → (o : Option A) → f w ≡ o → next f l c ≡ option_map (λ a. (a, after)) o
  unfolding next
  next_of w is o e = ap (λ (p : Option A). option_map (λ a. (a, after)) p) (ap f (sym is) ∙ e)

  -- What a method finds.
  pub next-is : (w : List ℕ) → w ≡ first_word (words (drop c.at l)) → (a : A) → f w ≡ Some a → (e : ℕ) → e ≡ past_word l c.at →
      Some (a, record { at = e; line = c.line }) ≡ next f l c
  next-is w is a h e q = ap (λ (j : ℕ). Some (a, record { at = j; line = c.line })) q ∙ sym (next_of w is (Some a) h)

  pub next-bad : (w : List ℕ) → w ≡ first_word (words (drop c.at l)) → f w ≡ None → None ≡ next f l c
  next-bad w is h = sym (next_of w is None h)

  -- What it says of the words.
  pub spoilt : None ≡ next f l c → f (first_word (words (drop c.at l))) ≡ None
  spoilt h = go (f (first_word (words (drop c.at l)))) refl
    where
      go : (o : Option A) → f (first_word (words (drop c.at l))) ≡ o → f (first_word (words (drop c.at l))) ≡ None
      go None e = e
      go (Some a) e =
          let q : ◌≡◌ {A = Option (A × Cursor)} None (Some (a, after)) = h ∙ next_of (first_word (words (drop c.at l))) refl (Some a) e in
          zero_one (cc)

  pub took : f [] ≡ None → c.at ≤ length l → (a : A) (d : Cursor) → Some (a, d) ≡ next f l c → Took f l c.at a d.at
  took empty le a d h = by (f (first_word (words (drop c.at l)))) refl
    where
      at_word : (d.at ≡ past_word l c.at) → f (first_word (words (drop c.at l))) ≡ Some a → Front l c.at → Took f l c.at a d.at
      at_word q e (nothing is) = let z : None ≡ Some a = sym empty ∙ ap (λ (ws : List (List ℕ)). f (first_word ws)) (sym is) ∙ e in zero_one (cc)
      at_word q e (word x w is) = record {
        read = x ∷ w;
        ahead = is ∙ ap (λ (j : ℕ). (x ∷ w) ∷ words (drop j l)) (sym q);
        value = ap (λ (ws : List (List ℕ)). f (first_word ws)) (sym is) ∙ e;
        inside = omega (arith, past-le in_word l (past blank l c.at) (past-le blank l c.at le));
      }

      by : (o : Option A) → f (first_word (words (drop c.at l))) ≡ o → Took f l c.at a d.at
      by None e = let q : ◌≡◌ {A = Option (A × Cursor)} (Some (a, d)) None = h ∙ next_of (first_word (words (drop c.at l))) refl None e in zero_one (cc)
      by (Some b) e =
          let q : ◌≡◌ {A = Option (A × Cursor)} (Some (a, d)) (Some (b, after)) = h ∙ next_of (first_word (words (drop c.at l))) refl (Some b) e in
          let p : ◌≡◌ {A = A × Cursor} (a, d) (b, after) = cc in
          at_word (ap (λ (x : A × Cursor). x.1.at) p) (e ∙ ap (λ (x : A × Cursor). Some x.0) (sym p)) (front l c.at)

-- A first word that is not read spoils the line.
module _ {A : Type 0} (f : List ℕ → Option A) where
  pub one-bad : (ws : List (List ℕ)) → f (first_word ws) ≡ None → one_word f ws ≡ None
  unfolding one_word
  one-bad [] h = refl
  one-bad (u ∷ []) h = h
  one-bad (u ∷ v ∷ ws) h = refl

  one-step : (u : List ℕ) (ws : List (List ℕ)) → one_word f (u ∷ ws) ≡ cond (no_words ws) (f u) None
  unfolding one_word
  one-step u [] = refl
  one-step u (v ∷ ws) = refl

  -- A word that is read, and whether another follows.
  pub one_last : (l : List ℕ) (at : ℕ) (a : A) (e : ℕ) → Took f l at a e → (b : Bool) → no_words (words (drop e l)) ≡ b →
      cond b (Some a) None ≡ one_word f (words (drop at l))
  one_last l at a e t b h =
      ap₂ (λ (x : Bool) (o : Option A). cond x o None) (sym h) (sym t.value) ∙ sym (one-step t.read (words (drop e l))) ∙ ap (one_word f) (sym t.ahead)

module _ {A B : Type 0} (f : List ℕ → Option A) (g : List ℕ → Option B) where
  pub two_bad : (ws : List (List ℕ)) → f (first_word ws) ≡ None → two_words f g ws ≡ None
  unfolding two_words
  two_bad [] h = refl
  two_bad (u ∷ []) h = refl
  two_bad (u ∷ v ∷ []) h = ap (λ (o : Option A). pair_of_options o (g v)) h
  two_bad (u ∷ v ∷ w ∷ ws) h = refl

  two_step : (u : List ℕ) (ws : List (List ℕ)) (a : A) → f u ≡ Some a → two_words f g (u ∷ ws) ≡ option_map (λ b. (a, b)) (one_word g ws)
  unfolding two_words one_word
  two_step u [] a h = refl
  two_step u (v ∷ []) a h = ap (λ (o : Option A). pair_of_options o (g v)) h ∙ go (g v)
    where
      go : (o : Option B) → pair_of_options (Some a) o ≡ option_map (λ b. (a, b)) o
      go None = refl
      go (Some b) = refl
  two_step u (v ∷ w ∷ ws) a h = refl

  -- A word that is read, and the one number that is left.
  pub two_last : (l : List ℕ) (a : A) (e : ℕ) → Took f l 0 a e → (o : Option B) → o ≡ one_word g (words (drop e l)) →
      option_map (λ b. (a, b)) o ≡ two_words f g (words l)
  two_last l a e t o h =
      ap (λ (p : Option B). option_map (λ b. (a, b)) p) h ∙ sym (two_step t.read (words (drop e l)) a t.value)
      ∙ ap (two_words f g) (sym t.ahead)

module _ {A B C : Type 0} (f : List ℕ → Option A) (g : List ℕ → Option B) (h : List ℕ → Option C) where
  pub three_bad : (ws : List (List ℕ)) → f (first_word ws) ≡ None → three_words f g h ws ≡ None
  unfolding three_words
  three_bad [] q = refl
  three_bad (u ∷ []) q = refl
  three_bad (u ∷ v ∷ []) q = refl
  three_bad (u ∷ v ∷ w ∷ []) q = ap (λ (o : Option A). all3 o (g v) (h w)) q
  three_bad (u ∷ v ∷ w ∷ x ∷ ws) q = refl

  three_step : (u : List ℕ) (ws : List (List ℕ)) (a : A) → f u ≡ Some a → three_words f g h (u ∷ ws) ≡ option_map (λ p. (a, p.0, p.1)) (two_words g h ws)
  unfolding three_words two_words
  three_step u [] a q = refl
  three_step u (v ∷ []) a q = refl
  three_step u (v ∷ w ∷ []) a q = ap (λ (o : Option A). all3 o (g v) (h w)) q ∙ go (g v) (h w)
    where
      go : (m : Option B) (n : Option C) → all3 (Some a) m n ≡ option_map (λ p. (a, p.0, p.1)) (pair_of_options m n)
      go None n = refl
      go (Some b) None = refl
      go (Some b) (Some c) = refl
  three_step u (v ∷ w ∷ x ∷ ws) a q = refl

  module _ (l : List ℕ) (a : A) (e : ℕ) (t : Took f l 0 a e) where
    rest : three_words f g h (words l) ≡ option_map (λ p. (a, p.0, p.1)) (two_words g h (words (drop e l)))
    rest = ap (three_words f g h) t.ahead ∙ three_step t.read (words (drop e l)) a t.value

    pub three_second : g (first_word (words (drop e l))) ≡ None → three_words f g h (words l) ≡ None
    three_second q = rest ∙ ap (λ (o : Option (B × C)). option_map (λ p. (a, p.0, p.1)) o) (two_bad g h (words (drop e l)) q)

    -- Two words that are read, and the one number that is left.
    pub three_last : (b : B) (j : ℕ) → Took g l e b j → (o : Option C) → o ≡ one_word h (words (drop j l)) →
        option_map (λ c. (a, b, c)) o ≡ three_words f g h (words l)
    three_last b j u o q =
        ap (λ (p : Option C). option_map (λ c. (a, b, c)) p) q ∙ sym (go (one_word h (words (drop j l))))
        ∙ ap (λ (p : Option (B × C)). option_map (λ r. (a, r.0, r.1)) p)
        (sym (ap (two_words g h) u.ahead ∙ two_step g h u.read (words (drop j l)) b u.value))
        ∙ sym rest
      where
        go : (o : Option C) → option_map {T = B × C} {U = A × B × C} (λ p. (a, p.0, p.1)) (option_map {T = C} {U = B × C} (λ c. (b, c)) o) ≡ option_map (λ c. (a, b, c)) o
        go None = refl
        go (Some c) = refl

-- The first two words of a line of three, by what the cursor finds; h reads the last.
module _ (rules : Rules) {C : Type 0} (h : List ℕ → Option C) (l : List ℕ) where
  pub first_spoilt : None ≡ next (natural rules) l origin → None ≡ three_words (natural rules) (natural rules) h (words l)
  first_spoilt first = sym (three_bad (natural rules) (natural rules) h (words l) (spoilt (natural rules) l origin first))

  module _ {a : ℕ} {c : Cursor} (first : Some (a, c) ≡ next (natural rules) l origin) where
    pub first_took : Took (natural rules) l 0 a c.at
    first_took = took (natural rules) l origin (natural_empty rules) (omega arith) a c first

    pub second_spoilt : None ≡ next (natural rules) l c → None ≡ three_words (natural rules) (natural rules) h (words l)
    second_spoilt second = sym (three_second (natural rules) (natural rules) h l a c.at first_took (spoilt (natural rules) l c second))

    module _ {b : ℕ} {d : Cursor} (second : Some (b, d) ≡ next (natural rules) l c) where
      pub second_took : Took (natural rules) l c.at b d.at
      second_took = took (natural rules) l c (natural_empty rules) first_took.inside b d second

      pub third_as : {o : Option C} → o ≡ one_word h (words (drop d.at l)) →
          option_map (λ z. (a, b, z)) o ≡ three_words (natural rules) (natural rules) h (words l)
      third_as {o} e = three_last (natural rules) (natural rules) h l a c.at first_took b d.at second_took o e

-- The integer of a line of one fits an `i32`, and so does the weight of an edge's line.
pub one-fits : (rules : Rules) (ws : List (List ℕ)) (z : ℤ) → one_word (integer rules) ws ≡ Some z → SFits w32 z
unfolding one_word
one-fits rules [] z e = absent e
one-fits rules (w ∷ []) z e = integer-fits rules w z e
one-fits rules (w ∷ v ∷ ws) z e = absent e

pub edge_fits : (rules : Rules) (ws : List (List ℕ)) (r c : ℕ) (z : ℤ) →
    three_words (natural rules) (natural rules) (integer rules) ws ≡ Some (r, c, z) → SFits w32 z
unfolding three_words
edge_fits rules [] r c z e = absent e
edge_fits rules (u ∷ []) r c z e = absent e
edge_fits rules (u ∷ v ∷ []) r c z e = absent e
edge_fits rules (u ∷ v ∷ w ∷ []) r c z e = go (natural rules u) (natural rules v) (integer rules w) refl e
  where
    go : (a b : Option ℕ) (o : Option ℤ) → integer rules w ≡ o → all3 a b o ≡ Some (r, c, z) → SFits w32 z
    go None b o q e = absent e
    go (Some i) None o q e = absent e
    go (Some i) (Some j) None q e = absent e
    go (Some i) (Some j) (Some y) q e =
        let p : ◌≡◌ {A = ℕ × ℕ × ℤ} (i, j, y) (r, c, z) = cc in
        integer-fits rules w z (q ∙ ap (λ (t : ℕ × ℕ × ℤ). Some t.2) p)
edge_fits rules (u ∷ v ∷ w ∷ x ∷ ws) r c z e = absent e
