-- A text of a subgraph (plan) is read alike for two graphs that are the same sheet.
use Rattle.std.specs.Prelude.{Option, None, Some, option_map, Ok}
use Prim.Native.Nat.{ℕ, ◌+◌}
use mathlib.Core.Path.{◌≡◌, refl, sym, ap, ap₂, ◌∙◌, subst₂}
use mathlib.Core.Bool.{Bool, true, false, cond, ◌&&◌, ◌||◌}
use mathlib.Core.List.{List, [], ◌∷◌}
use native.Mathlib.Omega.{arith}
use native.Mathlib.Decide.{ℕ_discrete}
use lib.Dec.{leb, eqb, ltb}
use lib.ListN.{length, get_or, set, replicate, length-set, length-replicate, get_or-replicate}
use lib.Seq.{get_or-set_same, get_or-set_other}
use borrow.Author.Tests.{eq-eqb}
use Rattle.graph.specs.declared.Kind.{Kind}
use Rattle.graph.specs.declared.Fault.{Fault}
use Rattle.graph.specs.declared.Fault.TheVariants.{LaterLine, LentLength, TextLength, Disagreement}
use Rattle.graph.specs.Refusal.{Outcome, refuses, once, passing}
use Rattle.graph.specs.Graph.{Graph, row_at, column_at, weight_at, sizes_in_range, ends_in_range}
use Rattle.graph.specs.Subgraph.{mark_at}
use Rattle.graph.specs.Tests.{graph_lengths, graph_tests}
use Rattle.graph.specs.Passed.{Passed}
use Rattle.graph.proofs.Passing.{zero_one, pass}
use Rattle.graph.proofs.Passed.{passed_lengths, passed_tests}
use Rattle.graph.proofs.Ranges.{◌also◌}
use Rattle.layout.specs.declared.Rules.{Rules}
use Rattle.layout.specs.Text.{lines, words, natural, two_words, three_words, text_fits, line_fits, blank_line, comment_line}
use Rattle.layout.specs.Lines.{Step, goes, stops, State, start, sizing, reading, Layout, sized, begun, on_line, at_end, on_step, read_lines, read_text}
use Rattle.layout.specs.SubgraphText.{kinds_agree, subgraph_kind, subgraph_header, Marked, subgraph_sizes, edge_with, subgraph_mark, subgraph_edge, subgraph_layout}
use Rattle.layout.specs.SubgraphText.{subgraph_reader_tests, read_subgraph_by}
use Rattle.tidying.specs.Alike.{SameSheet, SameChosen, ReadAlike}
use Rattle.tidying.proofs.Order.{edge_some}

-- ---- two layouts

-- Two lines do alike: reading goes on in states that are related, or both are refused for the same.
pub data StepAlike {A B : Type 0} (Q : A → B → Type 0) : Step A → Step B → Type 0 where
  both_go : {a : A} {b : B} → Q a b → StepAlike Q (goes a) (goes b)
  both_stop : {f : Fault} → StepAlike Q (stops f) (stops f)

-- Reading is equally far.
pub data StateAlike {H B C : Type 0} (Q : B → C → Type 0) : State H B → State H C → Type 0 where
  both_start : StateAlike Q start start
  both_sizing : {h : H} → StateAlike Q (sizing h) (sizing h)
  both_reading : {b : B} {c : C} → Q b c → StateAlike Q (reading b) (reading c)

-- Results that are related are yielded, or the same is refused.
pub data OutcomeAlike {R S : Type 0} (P : R → S → Type 0) : Outcome R → Outcome S → Type 0 where
  both_yield : {r : R} {s : S} → P r s → OutcomeAlike P (Ok r) (Ok s)
  both_refuse : {f : Fault} {k : ℕ} → OutcomeAlike P (refuses f k) (refuses f k)

-- Two layouts do alike at every line, where Q relates what they have read since the size line and P their results.
pub record LayoutsAlike {H B C R S : Type 0} (L : Layout H B R) (M : Layout H C S) (Q : B → C → Type 0) (P : R → S → Type 0) : Type 0 where
  pub header : (l : List ℕ) → L.header_line l ≡ M.header_line l
  pub size : (h : H) (l : List ℕ) → StepAlike Q (L.size_line h l) (M.size_line h l)
  pub later : {b : B} {c : C} → Q b c → (l : List ℕ) → StepAlike Q (L.later_line b l) (M.later_line c l)
  pub more : {b : B} {c : C} → Q b c → L.more b ≡ M.more c
  pub result : {b : B} {c : C} → Q b c → P (L.result b) (M.result c)

-- The same test leads to steps that are alike.
tested : {A B : Type 0} {Q : A → B → Type 0} {a c : Step A} {b d : Step B} (t u : Bool) → t ≡ u → StepAlike Q a b → StepAlike Q c d
    → StepAlike Q (cond t a c) (cond u b d)
tested true true e h k = h
tested false false e h k = k
tested true false e h k = zero_one (cc)
tested false true e h k = zero_one (cc)

module _ {H B C R S : Type 0} {L : Layout H B R} {M : Layout H C S} {Q : B → C → Type 0} {P : R → S → Type 0} (A : LayoutsAlike L M Q P) where
  sized_alike : (o : Step H) → StepAlike (StateAlike {H = H} Q) (sized o) (sized o)
  sized_alike (goes h) = both_go both_sizing
  sized_alike (stops f) = both_stop

  begun_alike : {o : Step B} {p : Step C} → StepAlike Q o p → StepAlike (StateAlike {H = H} Q) (begun o) (begun p)
  begun_alike (both_go q) = both_go (both_reading q)
  begun_alike both_stop = both_stop

  line_alike : {s : State H B} {t : State H C} → StateAlike Q s t → (l : List ℕ) → StepAlike (StateAlike Q) (on_line L s l) (on_line M t l)
  unfolding on_line
  line_alike both_start l = tested (line_fits l) (line_fits l) refl (rw (A.header l) (sized_alike (M.header_line l))) both_stop
  line_alike (both_sizing {h}) l =
      tested (line_fits l) (line_fits l) refl
      (tested (blank_line l || comment_line l) (blank_line l || comment_line l) refl (both_go both_sizing) (begun_alike (A.size h l))) both_stop
  line_alike (both_reading {b} {c} q) l =
      tested (line_fits l) (line_fits l) refl
      (tested (blank_line l) (blank_line l) refl (both_go (both_reading q)) (tested (L.more b) (M.more c) (A.more q) (begun_alike (A.later q l)) both_stop)) both_stop

  end_alike : {s : State H B} {t : State H C} → StateAlike Q s t → (k : ℕ) → OutcomeAlike P (at_end L k s) (at_end M k t)
  unfolding at_end
  end_alike both_start k = both_refuse
  end_alike both_sizing k = both_refuse
  end_alike (both_reading {b} {c} q) k = go (L.more b) (M.more c) (A.more q)
    where
      go : (t u : Bool) → t ≡ u → OutcomeAlike P (cond t (refuses LaterLine k) (Ok (L.result b))) (cond u (refuses LaterLine k) (Ok (M.result c)))
      go true true e = both_refuse
      go false false e = both_yield (A.result q)
      go true false e = zero_one (cc)
      go false true e = zero_one (cc)

  pub lines-alike : (k : ℕ) (s : State H B) (t : State H C) → StateAlike Q s t → (ls : List (List ℕ)) → OutcomeAlike P (read_lines L k s ls) (read_lines M k t ls)
  unfolding read_lines
  lines-alike k s t q [] = end_alike q k
  lines-alike k s t q (l ∷ ls) = go (line_alike q l) (λ a b h. lines-alike (k + 1) a b h ls)
    where
      go : {o : Step (State H B)} {p : Step (State H C)} → StepAlike (StateAlike Q) o p
          → ((a : State H B) (b : State H C) → StateAlike Q a b → OutcomeAlike P (read_lines L (k + 1) a ls) (read_lines M (k + 1) b ls))
          → OutcomeAlike P (on_step k o (λ a. read_lines L (k + 1) a ls)) (on_step k p (λ b. read_lines M (k + 1) b ls))
      go (both_go {a} {b} h) ih = ih a b h
      go both_stop ih = both_refuse

-- ---- the edges at a pair of ends

-- Both graphs have an edge there, or neither.
data EdgesAt (g h : Graph) (r c : ℕ) : Type 0 where
  no_edge : edge_with g r c ≡ None → edge_with h r c ≡ None → EdgesAt g h r c
  an_edge : (e d : ℕ) → edge_with g r c ≡ Some e → edge_with h r c ≡ Some d → EdgesAt g h r c

edges_at : {g h : Graph} → SameSheet g h → (r c : ℕ) → EdgesAt g h r c
edges_at {g} {h} S r c = go (edge_with g r c) (edge_with h r c) refl refl (S.weights r c)
  where
    go : (o p : Option ℕ) → edge_with g r c ≡ o → edge_with h r c ≡ p → option_map (weight_at g) o ≡ option_map (weight_at h) p → EdgesAt g h r c
    go None None i j e = no_edge i j
    go (Some a) (Some b) i j e = an_edge a b i j
    go None (Some b) i j e = zero_one (cc)
    go (Some a) None i j e = zero_one (cc)

-- The same pairs of ends are chosen just where the two edges at each have equal marks.
module _ (g h : Graph) (x y : List ℕ) where
  chosen_at : SameChosen g x h y → (r c e d : ℕ) → edge_with g r c ≡ Some e → edge_with h r c ≡ Some d → mark_at x e ≡ mark_at y d
  chosen_at C r c e d i j =
      let k : ◌≡◌ {A = Option ℕ} (Some (mark_at x e)) (Some (mark_at y d)) =
      sym (ap (option_map (mark_at x)) i) ∙ C r c ∙ ap (option_map (mark_at y)) j in
      cc

  at_chosen : SameSheet g h → ((r c e d : ℕ) → edge_with g r c ≡ Some e → edge_with h r c ≡ Some d → mark_at x e ≡ mark_at y d) → SameChosen g x h y
  at_chosen S m r c = elim (edges_at S r c) [
    | no_edge i j ↦ ap (option_map (mark_at x)) i ∙ sym (ap (option_map (mark_at y)) j)
    | an_edge e d i j ↦ ap (option_map (mark_at x)) i ∙ ap Some (m r c e d i j) ∙ sym (ap (option_map (mark_at y)) j)
  ]

-- An edge has one pair of ends: if one graph has the same edge at two pairs, so has the other.
same-edge : (g h : Graph) (r c a b e d n k : ℕ) → edge_with g r c ≡ Some e → edge_with h r c ≡ Some d → edge_with g a b ≡ Some n → edge_with h a b ≡ Some k → n ≡ e
    → k ≡ d
same-edge g h r c a b e d n k i j u v same =
    let p = edge_some g r c e i in
    let q = edge_some g a b n u in
    let rows : a ≡ r = sym q.row ∙ ap (row_at g) same ∙ p.row in
    let columns : b ≡ c = sym q.column ∙ ap (column_at g) same ∙ p.column in
    let w : ◌≡◌ {A = Option ℕ} (Some k) (Some d) = sym v ∙ ap₂ (edge_with h) rows columns ∙ j in
    cc

-- ---- the lines of a subgraph's text

-- What has been read for either graph.
pub record MarkedAlike (g h : Graph) (b d : Marked) : Type 0 where
  pub count : b.count ≡ d.count
  pub came : b.came ≡ d.came
  pub long : length b.marks ≡ g.edges
  pub other_long : length d.marks ≡ h.edges
  pub chosen : SameChosen g b.marks h d.marks

module _ {g h : Graph} (S : SameSheet g h) where
  header-alike : (o : Option Kind) → subgraph_header g o ≡ subgraph_header h o
  header-alike None = refl
  header-alike (Some kind) = λ i. cond (kinds_agree kind (S.kind i)) (goes tt) (stops Disagreement)

  none_chosen : SameChosen g (replicate g.edges 0) h (replicate h.edges 0)
  none_chosen =
      at_chosen g h (replicate g.edges 0) (replicate h.edges 0) S
      (λ r c e d i j. get_or-replicate g.edges e 0 0 (edge_some g r c e i).among ∙ sym (get_or-replicate h.edges d 0 0 (edge_some h r c d j).among))

  sizes_alike : (o : Option (ℕ × ℕ × ℕ)) → StepAlike (MarkedAlike g h) (subgraph_sizes g o) (subgraph_sizes h o)
  sizes_alike None = both_stop
  sizes_alike (Some (r, c, n)) =
      tested (sizes_in_range g.kind r c n) (sizes_in_range h.kind r c n) (ap (λ k. sizes_in_range k r c n) S.kind)
      (tested (eqb r g.rows && eqb c g.columns && leb n g.edges) (eqb r h.rows && eqb c h.columns && leb n h.edges)
      (λ i. eqb r (S.rows i) && eqb c (S.columns i) && leb n (S.edges i))
      (both_go (record {
        count = refl;
        came = refl;
        long = length-replicate g.edges 0;
        other_long = length-replicate h.edges 0;
        chosen = none_chosen;
      }))
      both_stop)
      both_stop

  -- To set the marks of the two edges at a pair of ends keeps the same pairs chosen.
  set-chosen : (x y : List ℕ) → length x ≡ g.edges → length y ≡ h.edges → SameChosen g x h y → (r c e d : ℕ) → edge_with g r c ≡ Some e → edge_with h r c ≡ Some d
      → SameChosen g (set x e 1) h (set y d 1)
  set-chosen x y long other_long C r c e d i j = at_chosen g h (set x e 1) (set y d 1) S marks
    where
      marks : (a b n k : ℕ) → edge_with g a b ≡ Some n → edge_with h a b ≡ Some k → mark_at (set x e 1) n ≡ mark_at (set y d 1) k
      marks a b n k u v = elim (ℕ_discrete n e) [
        | yes same ↦
            ap (mark_at (set x e 1)) same
            ∙ get_or-set_same x e 1 0 (omega (arith, long, (edge_some g r c e i).among))
            ∙ sym (ap (mark_at (set y d 1)) (same-edge g h r c a b e d n k i j u v same)
            ∙ get_or-set_same y d 1 0 (omega (arith, other_long, (edge_some h r c d j).among)))
        | no differs ↦
            get_or-set_other x e n 1 0 differs
            ∙ chosen_at g h x y C a b n k u v
            ∙ sym (get_or-set_other y d k 1 0 (λ same. differs (same-edge h g r c a b d e k n j i v u same)))
      ]

  mark_alike : {b d : Marked} → MarkedAlike g h b d → (r c : ℕ) → StepAlike (MarkedAlike g h) (subgraph_mark b (edge_with g r c)) (subgraph_mark d (edge_with h r c))
  mark_alike {b} {d} A r c = elim (edges_at S r c) [
    | no_edge i j ↦ subst₂ (λ o p. StepAlike (MarkedAlike g h) (subgraph_mark b o) (subgraph_mark d p)) (sym i) (sym j) both_stop
    | an_edge e k i j ↦
        subst₂ (λ o p. StepAlike (MarkedAlike g h) (subgraph_mark b o) (subgraph_mark d p)) (sym i) (sym j)
        (tested (eqb (get_or b.marks e 0) 0) (eqb (get_or d.marks k 0) 0) (ap (λ m. eqb m 0) (chosen_at g h b.marks d.marks A.chosen r c e k i j))
        (both_go (record {
          count = A.count;
          came = ap (λ n. n + 1) A.came;
          long = length-set b.marks e 1 ∙ A.long;
          other_long = length-set d.marks k 1 ∙ A.other_long;
          chosen = set-chosen b.marks d.marks A.long A.other_long A.chosen r c e k i j;
        }))
        both_stop)
  ]

  edge_alike : {b d : Marked} → MarkedAlike g h b d → (o : Option (ℕ × ℕ)) → StepAlike (MarkedAlike g h) (subgraph_edge g b o) (subgraph_edge h d o)
  edge_alike A None = both_stop
  edge_alike A (Some (r, c)) =
      tested (ends_in_range g.kind g.rows g.columns r c) (ends_in_range h.kind h.rows h.columns r c)
      (λ i. ends_in_range (S.kind i) (S.rows i) (S.columns i) r c) (mark_alike A r c) both_stop

  layouts_alike : (rules : Rules) → LayoutsAlike (subgraph_layout rules g) (subgraph_layout rules h) (MarkedAlike g h) (λ x y. SameChosen g x h y)
  layouts_alike rules = record {
    header = λ l. header-alike (subgraph_kind l);
    size = λ u l. sizes_alike (three_words (natural rules) (natural rules) (natural rules) (words l));
    later = λ A l. edge_alike A (two_words (natural rules) (natural rules) (words l));
    more = λ A. ap₂ ltb A.came A.count;
    result = λ A. A.chosen;
  }

-- ---- the whole text

outcomes_alike : (g h : Graph) {o p : Outcome (List ℕ)} → OutcomeAlike (λ x y. SameChosen g x h y) o p → ReadAlike g h o p
outcomes_alike g h (both_yield C) = C
outcomes_alike g h both_refuse = (refl, refl)

-- A graph that has passed is not refused before the text's length.
tests_pass : {g : Graph} → Passed g → (text : List ℕ) (o : Outcome (List ℕ))
    → passing (subgraph_reader_tests g g.edges text) o ≡ passing (once TextLength (text_fits text) ∷ []) o
tests_pass {g} P text o =
    pass (once LentLength (graph_lengths g && eqb g.edges g.edges) ∷ graph_tests g)
    (λ k l. passed_lengths P also eq-eqb g.edges g.edges refl, passed_tests P)
    (passing (once TextLength (text_fits text) ∷ []) o)

pub plans_alike : (rules : Rules) {g h : Graph} → Passed g → Passed h → SameSheet g h → (text : List ℕ) →
    ReadAlike g h (read_subgraph_by rules g g.edges text) (read_subgraph_by rules h h.edges text)
unfolding read_subgraph_by
plans_alike rules {g} {h} P Q S text =
    subst₂ (ReadAlike g h) (sym (tests_pass P text (read_text (subgraph_layout rules g) text))) (sym (tests_pass Q text (read_text (subgraph_layout rules h) text)))
    (go (text_fits text))
  where
    go : (t : Bool) → ReadAlike g h (passing (once TextLength t ∷ []) (read_text (subgraph_layout rules g) text))
        (passing (once TextLength t ∷ []) (read_text (subgraph_layout rules h) text))
    go true = outcomes_alike g h (lines-alike (layouts_alike S rules) 1 start start both_start (lines text))
    go false = (refl, refl)
