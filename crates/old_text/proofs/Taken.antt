-- Whether a text is taken, by what the readers answer.
use Rattle.std.specs.Prelude.{Ok, Err, Option, Some, None}
use Rattle.std.specs.Result.{is_ok}
use Prim.Native.Nat.{ℕ, suc, ◌≤◌, ◌<◌}
use mathlib.Core.Path.{◌≡◌, refl, sym, ap, ap₂, ◌∙◌}
use mathlib.Core.Bool.{Bool, true, false, ◌||◌, or-true}
use mathlib.Core.List.{List}
use native.Mathlib.Omega.{arith}
use lib.IntN.{ℤ}
use lib.ListN.{length}
use borrow.Author.Tests.{leb-true}
use Rattle.graph.specs.Limits.{most_old_numbers, most_edges}
use Rattle.graph.specs.Refusal.{Outcome, reported}
use Rattle.graph.proofs.Passing.{zero_one, none_some}
use Rattle.layout.specs.declared.Rules.TheVariants.{Old}
use Rattle.layout.specs.declared.Field.{Field}
use Rattle.layout.specs.declared.Numbers.{Numbers}
use Rattle.layout.specs.declared.Numbers.TheVariants.{Bounds, Prices}
use Rattle.layout.specs.Text.{text_fits}
use Rattle.layout.specs.Lines.{read_text}
use Rattle.layout.specs.GraphText.{read_graph_by}
use Rattle.layout.specs.NumberText.{number_layout, read_numbers_by}
use Rattle.layout.specs.Rewrite.{takes, taken_as, taken_as_numbers, taken}
use Rattle.patterns.proofs.Readers.{graph-read}
use Rattle.patterns.proofs.Prices.{bounds_are_prices}
use Rattle.patterns.proofs.Taken.{takes-some, numbers_read, numbers_taken, taken-numbers}

-- ---- as numbers

module _ (text : List ℕ) where
  abbrev pub Numeric : Bool
  Numeric = taken_as_numbers Bounds text || taken_as_numbers Prices text

  as_prices : (what : Numbers) (k : ℕ) (zs : List ℤ) → read_numbers_by Old what k k text ≡ Ok zs → read_numbers_by Old Prices k k text ≡ Ok zs
  as_prices Bounds k zs e = bounds_are_prices Old k k text zs e
  as_prices Prices k zs e = e

  -- It is taken for no count.
  none_taken : ((what : Numbers) (k : ℕ) (zs : List ℤ) → read_numbers_by Old what k k text ≡ Ok zs → ⊥) → false ≡ Numeric
  none_taken never = sym (ap₂ ◌||◌ (not_numbers Bounds) (not_numbers Prices))
    where
      not_numbers : (what : Numbers) → taken_as_numbers what text ≡ false
      not_numbers what = none_some most_old_numbers (λ k. takes (read_numbers_by Old what (suc k) (suc k) text)) (λ k l. go k (read_numbers_by Old what (suc k) (suc k) text) refl)
        where
          go : (k : ℕ) (o : Outcome (List ℤ)) → read_numbers_by Old what (suc k) (suc k) text ≡ o → takes o ≡ false
          go k (Err refusal) e = refl
          go k (Ok zs) e = absurd (never what (suc k) zs e)

  -- It can be taken for the count that is told alone.
  module _ {told : Option ℕ} (only : (what : Numbers) (k : ℕ) (zs : List ℤ) → read_text (number_layout Old what k) text ≡ Ok zs → told ≡ Some k) where
    only_told : (what : Numbers) (k : ℕ) (zs : List ℤ) → read_numbers_by Old what k k text ≡ Ok zs → told ≡ Some k
    only_told what k zs e = only what k zs (numbers_read Old what k k text zs e).by_lines

    pub untold : told ≡ None → false ≡ Numeric
    untold is = none_taken (λ what k zs e. let h : told ≡ Some k = only_told what k zs e in absurd (zero_one (cc)))

    module _ {count : ℕ} (is : told ≡ Some count) where
      -- It is not taken for it as prices, and so not at all.
      not_priced : ((zs : List ℤ) → read_numbers_by Old Prices count count text ≡ Ok zs → ⊥) → false ≡ Numeric
      not_priced never =
          none_taken (λ what k zs e. let h : told ≡ Some k = only_told what k zs e in let same : k ≡ count = cc in
          never zs (sym (ap (λ (j : ℕ). read_numbers_by Old Prices j j text) same) ∙ as_prices what k zs e))

      pub too_many : 1152 < count → false ≡ Numeric
      too_many h = not_priced (λ zs e. omega (arith, (numbers_read Old Prices count count text zs e).counted))

      pub read_as_prices : {n : ℕ} → n ≡ count → (r : Outcome (Unit {0})) → r ≡ reported (λ zs. tt {0}) (read_numbers_by Old Prices count n text) → is_ok r ≡ Numeric
      read_as_prices long r says =
          go (read_numbers_by Old Prices count count text) refl r
          (says ∙ ap (λ (j : ℕ). (reported (λ zs. tt {0}) (read_numbers_by Old Prices count j text))) long)
        where
          go : (o : Outcome (List ℤ)) → read_numbers_by Old Prices count count text ≡ o → (r : Outcome (Unit {0})) → r ≡ reported (λ zs. tt {0}) o → is_ok r ≡ Numeric
          go (Ok zs) e (Ok u) q =
              sym (ap (λ (b : Bool). taken_as_numbers Bounds text || b) (numbers_taken Prices text count zs e) ∙ or-true (taken_as_numbers Bounds text))
          go (Ok zs) e (Err x) q = zero_one (cc)
          go (Err y) e (Ok u) q = zero_one (cc)
          go (Err y) e (Err x) q = not_priced (λ zs h. zero_one (cc))

-- ---- as one of these

-- As a graph, with either field, by v; and else as numbers, by r.
module _ (text : List ℕ) {v : Bool} (graph : v ≡ (taken_as Field.Integer text || taken_as Field.Pattern text)) where
  parts : taken text ≡ (v || Numeric text)
  unfolding taken
  parts =
      go (taken_as Field.Integer text) (taken_as Field.Pattern text) (taken_as_numbers Bounds text) (taken_as_numbers Prices text)
      ∙ ap (λ (b : Bool). b || Numeric text) (sym graph)
    where
      go : (a b c d : Bool) → (a || b || c || d) ≡ ((a || b) || (c || d))
      go true b c d = refl
      go false true c d = refl
      go false false c d = refl

  pub taken-graph : v ≡ true → v ≡ taken text
  taken-graph e = e ∙ sym (parts ∙ ap (λ (b : Bool). b || Numeric text) e)

  pub taken-numbers-only : v ≡ false → {r : Bool} → r ≡ Numeric text → r ≡ taken text
  taken-numbers-only e is = is ∙ sym (parts ∙ ap (λ (b : Bool). b || Numeric text) e)

-- ---- what is taken is not too long

graph_fits : (field : Field) (text : List ℕ) → taken_as field text ≡ true → text_fits text ≡ true
graph_fits field text e =
    let t = takes-some (read_graph_by Old field most_edges most_edges most_edges text) e in
    ((graph-read Old field text t.0).0 t.1).0

numbers_fit : (what : Numbers) (text : List ℕ) → taken_as_numbers what text ≡ true → text_fits text ≡ true
numbers_fit what text e = let t = taken-numbers what text e in (numbers_read Old what t.0 t.0 text t.1 t.2).fits

pub taken-fits : (text : List ℕ) → taken text ≡ true → length text ≤ 32768
unfolding taken
taken-fits text e = leb-true (length text) 32768 (go (taken_as Field.Integer text) refl (taken_as Field.Pattern text) refl (taken_as_numbers Bounds text) refl (taken_as_numbers Prices text) refl e)
  where
    go : (a : Bool) → taken_as Field.Integer text ≡ a → (b : Bool) → taken_as Field.Pattern text ≡ b → (c : Bool) → taken_as_numbers Bounds text ≡ c
        → (d : Bool) → taken_as_numbers Prices text ≡ d → (a || b || c || d) ≡ true → text_fits text ≡ true
    go true is b is' c is'' d is''' e = graph_fits Field.Integer text is
    go false is true is' c is'' d is''' e = graph_fits Field.Pattern text is'
    go false is false is' true is'' d is''' e = numbers_fit Bounds text is''
    go false is false is' false is'' true is''' e = numbers_fit Prices text is'''
    go false is false is' false is'' false is''' e = zero_one (cc)
