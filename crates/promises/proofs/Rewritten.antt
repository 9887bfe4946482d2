-- The promises of request U2 are kept.
use Rattle.std.specs.Prelude.{Ok}
use Prim.Native.Nat.{ℕ}
use mathlib.Core.Path.{◌≡◌, refl, sym, ap, ◌∙◌}
use mathlib.Core.Bool.{Bool, true, false, ◌||◌, or-true}
use mathlib.Core.List.{List, [], ◌∷◌}
use lib.IntN.{ℤ, pos}
use lib.ListN.{get_or}
use lib.Signed.{◌≤ℤ◌}
use Rattle.integers.proofs.Order.{between-true, le-between}
use Rattle.graph.specs.declared.Fault.TheVariants as Fault
use Rattle.graph.specs.Limits.{most_edges, greatest_price, greatest_old_price}
use Rattle.graph.specs.Refusal.{Outcome, refuses}
use Rattle.graph.specs.Graph.{Graph}
use Rattle.graph.proofs.Passing.{zero_one, passes}
use Rattle.layout.specs.declared.Rules.TheVariants.{New, Old}
use Rattle.layout.specs.declared.Field.{Field}
use Rattle.layout.specs.declared.Field.TheVariants as Field
use Rattle.layout.specs.declared.Numbers.{Numbers}
use Rattle.layout.specs.declared.Numbers.TheVariants.{Bounds, Prices}
use Rattle.layout.specs.Text.{bytes, on_first, pieces, non_empty, lines, words, same, same_folded, header_words, header, unlines}
use Rattle.layout.specs.Lines.{on_line, read_lines, read_text}
use Rattle.layout.specs.GraphText.{read_graph_by, read_graph}
use Rattle.layout.specs.NumberText.{in_range, number_layout, number_reader_tests, read_numbers_by, read_numbers}
use Rattle.layout.specs.SubgraphText.{subgraph_layout, subgraph_reader_tests, read_subgraph_by, read_subgraph}
use Rattle.layout.specs.Rewrite.{takes, taken_as, taken_as_numbers, taken, rewrite_output}
use Rattle.patterns.proofs.Texts.{text_passes_tests}
use Rattle.patterns.proofs.Readers.{graph-read, plan_of_some_graph}
use Rattle.patterns.proofs.Prices.{AlsoIn}
use Rattle.patterns.proofs.Taken.{takes-some, numbers_taken, taken-numbers}
use Rattle.rewriting.proofs.Written.{natural-written, integer-written}
use Rattle.rewriting.proofs.Anew.{line_words, line_blanks, text-lines, text_ends, output-anew, output-line}
use Rattle.rewriting.proofs.Texts.{graph_anew, graph_same, numbers_anew, numbers_same, subgraph_anew, subgraph_same}
use Rattle.promises.specs.Promises.{OneWay, OldTextsRewritten, NewTextsKept, CopiesTheRest, RefusedByAll, CannotRead, PlanOfSomeSheet, ReadSheetsPass}

pub one_way : OneWay
one_way = record {
  size = λ u v n e f. (natural-written u n e).1 ∙ sym (natural-written v n f).1;
  number = λ u v z e f. (integer-written u z e).1 ∙ sym (integer-written v z f).1;
  written = λ w z e. (integer-written w z e).1;
}

pub copies-the-rest : CopiesTheRest
copies-the-rest = record { lines_of_text = text-lines; line_ends = text_ends; words_of_line = line_words; blanks_of_line = line_blanks }

pub plan-of-some-sheet : PlanOfSomeSheet
plan-of-some-sheet = plan_of_some_graph

pub read-sheets-pass : ReadSheetsPass
read-sheets-pass text g e = text_passes_tests New Field.Integer text g ((graph-read New Field.Integer text g).0 e).1

-- ---- what the old rules take, as one of the four

takes-yields : {A : Type 0} {o : Outcome A} {a : A} → o ≡ Ok a → takes o ≡ true
takes-yields e = ap takes e

abbrev any_of : Bool → Bool → Bool → Bool → Bool
any_of a b c d = a || b || c || d

any_first : (b c d : Bool) → any_of true b c d ≡ true
any_first b c d = refl

any_second : (a c d : Bool) → any_of a true c d ≡ true
any_second true c d = refl
any_second false c d = refl

any_third : (a b d : Bool) → any_of a b true d ≡ true
any_third a b d = ap (λ (x : Bool). x || d) (or-true (a || b))

any_fourth : (a b c : Bool) → any_of a b c true ≡ true
any_fourth a b c = or-true (a || b || c)

module _ (text : List ℕ) where
  graph_old : (g : Graph) → read_graph_by Old Field.Integer most_edges most_edges most_edges text ≡ Ok g → taken text ≡ true
  unfolding taken
  graph_old g e = rw (takes-yields e) (any_first (taken_as Field.Pattern text) (taken_as_numbers Bounds text) (taken_as_numbers Prices text))

  pattern_old : (p : Graph) → read_graph_by Old Field.Pattern most_edges most_edges most_edges text ≡ Ok p → taken text ≡ true
  unfolding taken
  pattern_old p e = rw (takes-yields e) (any_second (taken_as Field.Integer text) (taken_as_numbers Bounds text) (taken_as_numbers Prices text))

  subgraph_old : (g : Graph) (x : List ℕ) → read_subgraph_by Old g g.edges text ≡ Ok x → taken text ≡ true
  subgraph_old g x e = let p = (plan_of_some_graph Old text).0 (g, x, e) in pattern_old p.0 p.1

  numbers_old : (what : Numbers) (count : ℕ) (zs : List ℤ) → read_numbers_by Old what count count text ≡ Ok zs → taken text ≡ true
  unfolding taken
  numbers_old Bounds count zs e = rw (numbers_taken Bounds text count zs e) (any_third (taken_as Field.Integer text) (taken_as Field.Pattern text) (taken_as_numbers Prices text))
  numbers_old Prices count zs e = rw (numbers_taken Prices text count zs e) (any_fourth (taken_as Field.Integer text) (taken_as Field.Pattern text) (taken_as_numbers Bounds text))

pub old-texts-rewritten : OldTextsRewritten
old-texts-rewritten = record {
  graph = λ text g e.
      ap (read_graph most_edges most_edges most_edges) (output-anew text (graph_old text g e))
      ∙ graph_anew Field.Integer most_edges most_edges most_edges text g e;
  numbers = λ what count text zs e.
      ap (read_numbers what count count) (output-anew text (numbers_old text what count zs e)) ∙ numbers_anew what count count text zs e;
  subgraph = λ g text x e.
      ap (read_subgraph g g.edges) (output-anew text (subgraph_old text g x e)) ∙ subgraph_anew g g.edges text x e;
}

-- A price of today that is not over 2,000,000 is one of the old rules.
old_price : (z : ℤ) → in_range New Prices z ≡ true → z ≤ℤ pos greatest_old_price → in_range Old Prices z ≡ true
old_price z h l = le-between (between-true (pos 0) (pos greatest_price) z h).0 l

kept_numbers : (what : Numbers) (count : ℕ) (text : List ℕ) (zs : List ℤ) → AlsoIn New what Old what zs → read_numbers what count count text ≡ Ok zs →
    rewrite_output text ≡ text
kept_numbers what count text zs old e =
    let s = numbers_same what count count text zs old e in
    output-anew text (numbers_old text what count zs s.0) ∙ s.1

pub new-texts-kept : NewTextsKept
new-texts-kept = record {
  graph = λ text g e.
      let s = graph_same Field.Integer most_edges most_edges most_edges text g e in
      output-anew text (graph_old text g s.0) ∙ s.1;
  bounds = λ count text zs e. kept_numbers Bounds count text zs (λ k l h. h) e;
  prices = λ count text zs e small. kept_numbers Prices count text zs (λ k l h. old_price (get_or zs k (pos 0)) h (small k l)) e;
  subgraph = λ g text x e.
      let s = subgraph_same g g.edges text x e in
      output-anew text (subgraph_old text g x s.0) ∙ s.1;
}

-- ---- only the line

abbrev cannot_read : List ℕ
cannot_read = unlines (bytes "cannot read" ∷ [])

-- No reader takes the line.
line_no_graph : read_graph most_edges most_edges most_edges cannot_read ≡ refuses Fault.Header 1
unfolding read_graph_by on_line read_lines unlines lines words pieces on_first non_empty same same_folded header_words header
line_no_graph = refl

line_no_numbers : (what : Numbers) (count : ℕ) → read_text (number_layout New what count) cannot_read ≡ refuses Fault.Header 1
unfolding on_line read_lines unlines lines words pieces on_first non_empty same same_folded header_words header
line_no_numbers what count = refl

line_no_subgraph : (g : Graph) → read_text (subgraph_layout New g) cannot_read ≡ refuses Fault.Header 1
unfolding on_line read_lines unlines lines words pieces on_first non_empty same same_folded header_words header
line_no_subgraph g = refl

module _ (text : List ℕ) where
  all_refuse : rewrite_output text ≡ cannot_read → RefusedByAll text
  unfolding read_numbers_by read_subgraph_by
  all_refuse is = record {
    graph = λ g e.
        let q : ◌≡◌ {A = Outcome Graph} (refuses Fault.Header 1) (Ok g) =
        sym line_no_graph ∙ ap (read_graph most_edges most_edges most_edges) (sym is) ∙ old-texts-rewritten.graph text g e in
        zero_one (cc);
    subgraph = λ g x e.
        let w = ap (read_subgraph g g.edges) (sym is) ∙ old-texts-rewritten.subgraph g text x e in
        let q : ◌≡◌ {A = Outcome (List ℕ)} (refuses Fault.Header 1) (Ok x) =
        sym (line_no_subgraph g) ∙ (passes (subgraph_reader_tests g g.edges cannot_read) (read_text (subgraph_layout New g) cannot_read) x w).1 in
        zero_one (cc);
    numbers = λ what count zs e.
        let w = ap (read_numbers what count count) (sym is) ∙ old-texts-rewritten.numbers what count text zs e in
        let q : ◌≡◌ {A = Outcome (List ℤ)} (refuses Fault.Header 1) (Ok zs) =
        sym (line_no_numbers what count) ∙ (passes (number_reader_tests count count cannot_read) (read_text (number_layout New what count) cannot_read) zs w).1 in
        zero_one (cc);
  }

  module _ (R : RefusedByAll text) where
    no_graph : taken_as Field.Integer text ≡ true → ⊥
    no_graph e = let t = takes-some (read_graph_by Old Field.Integer most_edges most_edges most_edges text) e in R.graph t.0 t.1

    no_subgraph : taken_as Field.Pattern text ≡ true → ⊥
    no_subgraph e =
        let t = takes-some (read_graph_by Old Field.Pattern most_edges most_edges most_edges text) e in
        let p = (plan_of_some_graph Old text).1 (t.0, t.1) in
        R.subgraph p.0 p.1 p.2

    no_numbers : (what : Numbers) → taken_as_numbers what text ≡ true → ⊥
    no_numbers what e =
        let t = taken-numbers what text e in
        R.numbers what t.0 t.1 t.2

    not_taken : taken text ≡ false
    unfolding taken
    not_taken = go (taken_as Field.Integer text) no_graph (taken_as Field.Pattern text) no_subgraph (taken_as_numbers Bounds text) (no_numbers Bounds)
        (taken_as_numbers Prices text) (no_numbers Prices)
      where
        go : (a : Bool) → (a ≡ true → ⊥) → (b : Bool) → (b ≡ true → ⊥) → (c : Bool) → (c ≡ true → ⊥) → (d : Bool) → (d ≡ true → ⊥) → any_of a b c d ≡ false
        go true n b n' c n'' d n''' = absurd (n refl)
        go false n true n' c n'' d n''' = absurd (n' refl)
        go false n false n' true n'' d n''' = absurd (n'' refl)
        go false n false n' false n'' true n''' = absurd (n''' refl)
        go false n false n' false n'' false n''' = refl

pub cannot-read : CannotRead
cannot-read text = (all_refuse text, λ R. output-line text (not_taken text R))
