-- What the old rules take, by what the readers yield.
use Rattle.std.specs.Prelude.{Ok, Err}
use mathlib.Core.Path.{◌≡◌, refl, ap, ◌∙◌}
use mathlib.Core.Bool.{true}
use mathlib.Core.List.{List}
use Prim.Native.Nat.{ℕ, suc, ◌-◌}
use native.Mathlib.Omega.{arith}
use lib.IntN.{ℤ}
use Rattle.graph.specs.Limits.{most_old_numbers}
use Rattle.graph.specs.Refusal.{Outcome, refuses}
use Rattle.graph.proofs.Passing.{zero_one, passes, some_yes, yes_some}
use Rattle.graph.specs.Passed.{UpTo}
use Rattle.graph.proofs.Ranges.{up_to-true}
use Rattle.layout.specs.declared.Rules.{Rules}
use Rattle.layout.specs.declared.Rules.TheVariants.{Old}
use Rattle.layout.specs.declared.Numbers.{Numbers}
use Rattle.layout.specs.Text.{text_fits}
use Rattle.layout.specs.Lines.{read_text}
use Rattle.layout.specs.NumberText.{most_numbers_by, number_reader_tests_by, number_layout, read_numbers_by}
use Rattle.layout.specs.Rewrite.{takes, taken_as_numbers}

pub takes-some : {A : Type 0} (o : Outcome A) → takes o ≡ true → (a : A) × (o ≡ Ok a)
takes-some (Ok a) e = (a, refl)
takes-some (Err refusal) e = zero_one (cc)

-- Numbers are yielded for a count from 1 to the most that the rules take, of a text that is not too long, by its lines.
pub record NumbersRead (rules : Rules) (what : Numbers) (count : ℕ) (text : List ℕ) (zs : List ℤ) : Type 0 where
  pub counted : UpTo (most_numbers_by rules) count
  pub fits : text_fits text ≡ true
  pub by_lines : read_text (number_layout rules what count) text ≡ Ok zs

pub numbers_read : (rules : Rules) (what : Numbers) (count n : ℕ) (text : List ℕ) (zs : List ℤ) → read_numbers_by rules what count n text ≡ Ok zs
    → NumbersRead rules what count text zs
unfolding read_numbers_by
numbers_read rules what count n text zs e =
    let p = passes (number_reader_tests_by rules count n text) (read_text (number_layout rules what count) text) zs e in
    record { counted = up_to-true (most_numbers_by rules) count (p.0.1.0 0 (omega arith)); fits = p.0.1.1.0 0 (omega arith); by_lines = p.1 }

module _ (what : Numbers) (text : List ℕ) where
  -- They are taken just where they are for some count.
  pub numbers_taken : (count : ℕ) (zs : List ℤ) → read_numbers_by Old what count count text ≡ Ok zs → taken_as_numbers what text ≡ true
  numbers_taken count zs e =
      let r = numbers_read Old what count count text zs e in
      let q : suc (count - 1) ≡ count = omega (arith, r.counted) in
      some_yes most_old_numbers (λ k. takes (read_numbers_by Old what (suc k) (suc k) text)) (count - 1) (omega (arith, r.counted))
      (ap (λ (j : ℕ). takes (read_numbers_by Old what j j text)) q ∙ ap takes e)

  pub taken-numbers : taken_as_numbers what text ≡ true → (count : ℕ) × (zs : List ℤ) × (read_numbers_by Old what count count text ≡ Ok zs)
  taken-numbers e =
      let k = yes_some most_old_numbers (λ k. takes (read_numbers_by Old what (suc k) (suc k) text)) e in
      let t = takes-some (read_numbers_by Old what (suc k.0) (suc k.0) text) k.2 in
      (suc k.0, t.0, t.1)
