-- What the number reader answers and leaves, from its tests and from what reading the lines yields.
use Rattle.std.specs.Prelude.{Ok, Err}
use Rattle.std.specs.Result.{is_err}
use Prim.Native.Nat.{ℕ}
use mathlib.Core.Path.{◌≡◌, sym, ap, ap₂, ◌∙◌, subst}
use mathlib.Core.Bool.{Bool, true, false}
use mathlib.Core.List.{List, [], ◌∷◌}
use lib.Dec.{eqb}
use lib.IntN.{ℤ, pos}
use lib.ListN.{length, replicate, length-replicate}
use borrow.Author.Tests.{eqb-true}
use Rattle.graph.specs.declared.Fault.TheVariants.{TextLength, Sizes, LentLength}
use Rattle.graph.specs.declared.Refusal.{Refusal}
use Rattle.graph.specs.Refusal.{Outcome, refuses, reported, output, Test, once, passing}
use Rattle.graph.specs.Graph.{up_to}
use Rattle.graph.proofs.Passing.{zero_one, once-yields}
use Rattle.layout.specs.declared.Rules.{Rules}
use Rattle.layout.specs.declared.Numbers.{Numbers}
use Rattle.layout.specs.Text.{text_fits}
use Rattle.layout.specs.Lines.{read_text}
use Rattle.layout.specs.NumberText.{most_numbers_by, number_layout, read_numbers_by}
use Rattle.checks.proofs.Refusals.{checked_passed, checked_refused}
use Rattle.lent.specs.Holding.{Holds}
use Rattle.lent.proofs.Filling.{left-yields, left-refused}
use Rattle.number_reader.specs.OnLine.{NumbersReading}

-- What the call answers and leaves, where its output has n numbers.
abbrev pub NumbersAnswered : Rules → Numbers → ℕ → ℕ → List ℕ → (Outcome (Unit {0})) → List ℤ → Type 0
NumbersAnswered rules what count n s r out =
    (r ≡ reported (λ zs. tt {0}) (read_numbers_by rules what count n s)) × (out ≡ output n (pos 0) (λ zs. zs) (read_numbers_by rules what count n s))

abbrev number_tests : Bool → Bool → List ℕ → List Test
number_tests lent sizes s = once LentLength lent ∷ once Sizes sizes ∷ once TextLength (text_fits s) ∷ []

-- The tests have answered r of an output of n numbers.
pub record Tested (rules : Rules) (count n : ℕ) (s : List ℕ) (r : Outcome (Unit {0})) : Type 0 where
  pub says : r ≡ passing (number_tests (eqb n count) (up_to (most_numbers_by rules) count) s) (Ok tt)

pub tested : {rules : Rules} {count n : ℕ} {s : List ℕ} {r : Outcome (Unit {0})} {cleared : List ℤ} → cleared ≡ replicate n (pos 0) → {sizes : Bool} →
    sizes ≡ up_to (most_numbers_by rules) count → r ≡ passing (number_tests (eqb (length cleared) count) sizes s) (Ok tt) → Tested rules count n s r
tested {rules} {count} {n} {s} zeros q says = record {
  says = says ∙ ap₂ (λ (k : ℕ) (y : Bool). passing (number_tests (eqb k count) y s) (Ok (tt {0}))) (ap length zeros ∙ length-replicate n (pos 0)) q;
}

module _ {rules : Rules} (what : Numbers) {count n : ℕ} {s : List ℕ} {r : Outcome (Unit {0})} (T : Tested rules count n s r) where
  abbrev whole : Outcome (List ℤ)
  whole = read_numbers_by rules what count n s

  -- A test has refused.
  pub whole_lent : {x : Refusal} {out : List ℤ} → r ≡ Err x → {y : Outcome (Unit {0})} → y ≡ Err x → out ≡ replicate n (pos 0) → NumbersAnswered rules what count n s y out
  unfolding read_numbers_by
  whole_lent {x} is same zeros =
      let e = checked_refused (number_tests (eqb n count) (up_to (most_numbers_by rules) count) s) (read_text (number_layout rules what count) s) T.says is in
      let f : refuses x.fault x.place ≡ reported (λ zs. tt {0}) whole = ap (reported (λ zs. tt {0})) (sym e) in
      (same ∙ f, zeros ∙ left-refused n (pos 0) (λ zs. zs) (λ zs. tt {0}) whole x.fault x.place f)

  -- The tests have passed.
  module _ (is : r ≡ Ok tt) where
    lent-right : n ≡ count
    lent-right =
        eqb-true n count
        (once-yields LentLength (eqb n count) (once Sizes (up_to (most_numbers_by rules) count) ∷ once TextLength (text_fits s) ∷ []) (Ok tt) tt
        (sym T.says ∙ is)).0

    pub lent_cleared : {out : List ℤ} → out ≡ replicate n (pos 0) → out ≡ replicate count (pos 0)
    lent_cleared zeros = zeros ∙ ap (λ k. replicate k (pos 0)) lent-right

    passed : read_text (number_layout rules what count) s ≡ whole
    unfolding read_numbers_by
    passed = sym (checked_passed (number_tests (eqb n count) (up_to (most_numbers_by rules) count) s) (read_text (number_layout rules what count) s) T.says is)

    module _ (a : Outcome (Unit {0})) {out : List ℤ} (R : NumbersReading rules what count s a out) where
      pub answered : a ≡ reported (λ zs. tt {0}) whole
      answered = R.says ∙ ap (λ (u : Outcome (List ℤ)). (reported (λ zs. tt {0}) u)) passed

      -- Where no line was refused the output stays, and else it is cleared.
      pub whole_read : is_err a ≡ false → out ≡ output n (pos 0) (λ zs. zs) whole
      whole_read = go a answered
        where
          go : (b : Outcome (Unit {0})) → b ≡ reported (λ zs. tt {0}) whole → is_err b ≡ false → out ≡ output n (pos 0) (λ zs. zs) whole
          go (Ok u) e q =
              let h = subst (λ w. Holds count (pos 0) (λ zs. zs) w out) passed R.holds in
              left-yields (λ zs. tt {0}) (subst (λ k. Holds k (pos 0) (λ zs. zs) whole out) (sym lent-right) h) e
          go (Err x) e q = zero_one (cc)

      pub whole_refused : is_err a ≡ true → {new : List ℤ} → new ≡ replicate n (pos 0) → new ≡ output n (pos 0) (λ zs. zs) whole
      whole_refused q {new} zeros = go a answered q
        where
          go : (b : Outcome (Unit {0})) → b ≡ reported (λ zs. tt {0}) whole → is_err b ≡ true → new ≡ output n (pos 0) (λ zs. zs) whole
          go (Ok u) e q = zero_one (cc)
          go (Err x) e q = zeros ∙ left-refused n (pos 0) (λ zs. zs) (λ zs. tt {0}) whole x.fault x.place e
