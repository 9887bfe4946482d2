-- The promises of request U3 are kept.
use Rattle.std.specs.Prelude.{Ok}
use Prim.Native.Nat.{ℕ}
use mathlib.Core.Path.{◌≡◌, refl, sym, ap, ◌∙◌, subst}
use mathlib.Core.List.{List}
use native.Mathlib.Omega.{arith}
use lib.Dec.{eqb}
use borrow.Author.Tests.{eqb-true, eq-eqb}
use Rattle.graph.specs.Limits.{most_edges, longest_text}
use Rattle.graph.specs.Refusal.{Outcome}
use Rattle.graph.specs.Graph.{Graph}
use Rattle.graph.specs.Tests.{graph_lengths}
use Rattle.graph.specs.Passed.{Passed}
use Rattle.graph.proofs.Passing.{passes, pass}
use Rattle.graph.proofs.Passed.{graph_passed, passed_lengths, passed_tests}
use Rattle.graph.proofs.Ranges.{both, ◌also◌}
use Rattle.layout.specs.declared.Rules.TheVariants.{New}
use Rattle.layout.specs.declared.Field.TheVariants as Field
use Rattle.layout.specs.GraphText.{read_graph, graph_text}
use Rattle.layout.specs.SubgraphText.{read_subgraph}
use Rattle.layout.specs.TidyText.{tidied, tidy_text, tidy_tests, tidy_graph}
use Rattle.readback.proofs.GraphBack.{graph_back}
use Rattle.patterns.proofs.Texts.{text_passes}
use Rattle.patterns.proofs.Readers.{graph-read}
use Rattle.tidying.specs.Alike.{SameSheet, ReadAlike}
use Rattle.tidying.proofs.Tidied.{tidied-rising, tidied-passed, tidied-same, same-sym, same-trans, rising_tidy, same-tidied, tidied-again}
use Rattle.tidying.proofs.Plans.{plans_alike}
use Rattle.report.specs.declared.Source.TheVariants as Source
use Rattle.report.specs.Programs.{came_from, and_then, written, tidy_run, tidy_output}
use Rattle.promises.specs.Promises.{ReadAs, TidyFormOf, AnySheetTidied, TidyKept, TidiedAlike, PlansKept}

-- ---- what the call and the program yield

pub sheet-passed : (sheet : List ℕ) (g : Graph) → ReadAs sheet g → Passed g
sheet-passed sheet g e = text_passes New Field.Integer sheet g ((graph-read New Field.Integer sheet g).0 e).1

-- The call yields the tidy text of a graph that has passed, where its output has 32,768 bytes, and else nothing.
pub passed_tidied : {g : Graph} → Passed g → tidy_graph g longest_text ≡ Ok (tidy_text g)
unfolding tidy_graph
passed_tidied {g} P =
    pass (tidy_tests g longest_text) (λ k l. passed_lengths P also eq-eqb longest_text longest_text refl, passed_tests P) (Ok (tidy_text g))

tidied-call : (g : Graph) (n : ℕ) (text : List ℕ) → tidy_graph g n ≡ Ok text → Passed g × (n ≡ longest_text) × (tidy_text g ≡ text)
unfolding tidy_graph
tidied-call g n text e =
    let p = passes (tidy_tests g n) (Ok (tidy_text g)) text e in
    let lengths = both (graph_lengths g) (eqb n longest_text) (p.0.0 0 (omega arith)) in
    let q : ◌≡◌ {A = Outcome (List ℕ)} (Ok (tidy_text g)) (Ok text) = p.1 in
    (graph_passed g lengths.0 p.0.1, eqb-true n longest_text lengths.1, cc)

tidied-program : (sheet : List ℕ) (g : Graph) → ReadAs sheet g → tidy_output sheet ≡ tidy_text g
unfolding tidy_output
tidied-program sheet g e =
    ap (λ (o : Outcome Graph). written (λ text. text) (and_then (came_from Source.Sheet o) tidy_run)) e
    ∙ ap (λ (o : Outcome (List ℕ)). written (λ text. text) (came_from Source.Input o)) (passed_tidied (sheet-passed sheet g e))

-- The tidy text reads as the graph in tidy order.
tidy_back : {g : Graph} → Passed g → ReadAs (tidy_text g) (tidied g)
tidy_back P = graph_back (tidied-passed P)

-- What a call yields is one result.
pub yields_once : {A : Type 0} {o : Outcome A} {a b : A} → o ≡ Ok a → o ≡ Ok b → a ≡ b
yields_once {A} {a = a} {b = b} e f = let q : ◌≡◌ {A = Outcome A} (Ok a) (Ok b) = sym e ∙ f in cc

-- ---- the promises

tidy_form : {g : Graph} → Passed g → (text : List ℕ) → tidy_text g ≡ text → TidyFormOf g text
tidy_form {g} P text is = record {
  graph = tidied g;
  read = subst (λ (t : List ℕ). ReadAs t (tidied g)) is (tidy_back P);
  same = tidied-same P;
  rising = tidied-rising P;
  written = sym is;
}

-- Two graphs that rise and are the same sheet are the same.
one_form : (g : Graph) (text other : List ℕ) → TidyFormOf g text → TidyFormOf g other → text ≡ other
one_form g text other F G =
    let h = F.graph in
    let k = G.graph in
    let own : tidied h ≡ h = rising_tidy (sheet-passed text h F.read) F.rising in
    let others : tidied k ≡ k = rising_tidy (sheet-passed other k G.read) G.rising in
    let same : tidied h ≡ tidied k = same-tidied (same-trans (same-sym F.same) G.same) in
    F.written ∙ ap (λ (x : Graph). graph_text x) (sym own ∙ same ∙ others) ∙ sym G.written

pub any-sheet-tidied : AnySheetTidied
any-sheet-tidied = record {
  call = λ g n text e. let t = tidied-call g n text e in tidy_form t.0 text t.2;
  program = λ sheet g e. tidy_form (sheet-passed sheet g e) (tidy_output sheet) (sym (tidied-program sheet g e));
  single = one_form;
}

-- The text of the graph in tidy order is the same text.
again : {g : Graph} → Passed g → tidy_text (tidied g) ≡ tidy_text g
again P = ap (λ (h : Graph). graph_text h) (tidied-again P)

pub tidy-kept : TidyKept
tidy-kept = record {
  call = λ g h n text e f.
      let t = tidied-call g n text e in
      let same : tidied g ≡ h = yields_once (subst (λ (x : List ℕ). ReadAs x (tidied g)) t.2 (tidy_back t.0)) f in
      ap (λ (k : Graph). tidy_graph k n) (sym same)
      ∙ ap (tidy_graph (tidied g)) t.1
      ∙ passed_tidied (tidied-passed t.0)
      ∙ ap Ok (again t.0 ∙ t.2);
  program = λ sheet g e.
      let P = sheet-passed sheet g e in
      ap tidy_output (tidied-program sheet g e) ∙ tidied-program (tidy_text g) (tidied g) (tidy_back P) ∙ again P ∙ sym (tidied-program sheet g e);
}

pub tidied-alike : TidiedAlike
tidied-alike sheet other g h e f =
    let P = sheet-passed sheet g e in
    let Q = sheet-passed other h f in
    let texts = tidied-program sheet g e in
    let others = tidied-program other h f in (
      λ same.
          let bytes : tidy_text g ≡ tidy_text h = sym texts ∙ same ∙ others in
          let graphs : tidied g ≡ tidied h =
          yields_once (subst (λ (x : List ℕ). ReadAs x (tidied g)) bytes (tidy_back P)) (tidy_back Q) in
          same-trans (subst (SameSheet g) graphs (tidied-same P)) (same-sym (tidied-same Q)),
      λ S. texts ∙ ap (λ (k : Graph). graph_text k) (same-tidied S) ∙ sym others,
    )

pub plans-kept : PlansKept
plans-kept sheet plan g h e f =
    let P = sheet-passed sheet g e in
    let same : tidied g ≡ h = yields_once (tidy_back P) (ap (read_graph most_edges most_edges most_edges) (sym (tidied-program sheet g e)) ∙ f) in
    subst (λ (k : Graph). ReadAlike g k (read_subgraph g g.edges plan) (read_subgraph k k.edges plan)) same
    (plans_alike New P (tidied-passed P) (tidied-same P) plan)
