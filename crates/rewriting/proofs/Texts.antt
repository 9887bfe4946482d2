-- Each sort of text: what the old rules take, the new ones take anew, with the same result; and what the new ones take is left as it is, where its numbers
-- are in the old range.
use Rattle.std.specs.Prelude.{Option, None, Some, option_map, Ok}
use mathlib.Core.Path.{◌≡◌, refl, sym, ap, ◌∙◌}
use mathlib.Core.Bool.{Bool, true, false, cond, not, ◌&&◌}
use mathlib.Core.List.{List, [], ◌∷◌, ◌++◌}
use Prim.Native.Nat.{ℕ}
use native.Mathlib.Omega.{arith}
use lib.Dec.{eqb}
use lib.IntN.{ℤ, pos}
use lib.ListN.{length, get_or}
use borrow.Author.Tests.{le-leb, leb-true, not-true}
use Rattle.graph.specs.declared.Kind.{Kind}
use Rattle.graph.specs.declared.Kind.TheVariants.{Bipartite, General}
use Rattle.graph.specs.declared.Fault.TheVariants.{TextLength, Header, LentLength, Sizes}
use Rattle.graph.specs.Limits.{most_edges}
use Rattle.graph.specs.Refusal.{Test, once, passing}
use Rattle.graph.specs.Graph.{Graph, up_to}
use Rattle.graph.specs.Tests.{graph_lengths, graph_tests}
use Rattle.graph.proofs.Passing.{zero_one, passes, pass, passes_split, passes_join}
use Rattle.graph.proofs.Ranges.{both}
use Rattle.layout.specs.declared.Rules.{Rules}
use Rattle.layout.specs.declared.Rules.TheVariants.{New, Old}
use Rattle.layout.specs.declared.Field.{Field}
use Rattle.layout.specs.declared.Field.TheVariants as Field
use Rattle.layout.specs.declared.Numbers.{Numbers}
use Rattle.layout.specs.Text.{bytes, blank, on_first, pieces, non_empty, words, same, header_words, header, comment_line, text_fits}
use Rattle.layout.specs.Lines.{Step, goes, stops, Layout, read_text}
use Rattle.layout.specs.GraphText.{field_word, graph_header, edge_on, graph_sizes, graph_edge, graph_layout, read_graph_by}
use Rattle.layout.specs.NumberText.{number_header, number_sizes, number_value, most_numbers_by, number_reader_tests_by, read_numbers_by}
use Rattle.layout.specs.SubgraphText.{subgraph_kind, subgraph_header, subgraph_sizes, subgraph_edge, subgraph_layout, read_subgraph_by}
use Rattle.layout.specs.Rewrite.{line_anew, text_anew}
use Rattle.patterns.proofs.Prices.{ranged_layout, AlsoIn, numbers_alike, old_is_new}
use Rattle.rewriting.proofs.Anew.{line_words, line_kept, text_length}
use Rattle.rewriting.proofs.Kept.{kept_naturals, kept_integers, WordsAlike, one-word, two-words, three-words, Follows, read_anew, read_same}

-- ---- a header line begins as a comment does

-- The first word of a line that begins with it has its first byte.
first-word : (x : ℕ) (l : List ℕ) → blank x ≡ false → (w : List ℕ) × (ws : List (List ℕ)) × (words (x ∷ l) ≡ (x ∷ w) ∷ ws)
unfolding words pieces on_first non_empty
first-word x l h = go (pieces blank l)
  where
    go : (ps : List (List ℕ)) → (w : List ℕ) × (ws : List (List ℕ)) × (non_empty (cond (blank x) ([] ∷ ps) (on_first x ps)) ≡ (x ∷ w) ∷ ws)
    go [] = ([], [], rw h)
    go (p ∷ ps) = (p, non_empty ps, rw h)

same_first : (x : ℕ) (w k : List ℕ) (y : ℕ) → same (x ∷ w) (y ∷ k) ≡ true → eqb x y ≡ true
unfolding same
same_first x w k y h = (both (eqb x y) (same w k) h).0

pub header-comment : (ks : List (List ℕ)) (l : List ℕ) → header ks l ≡ true → comment_line l ≡ true
unfolding header header_words
header-comment ks [] h = zero_one (cc)
header-comment ks (x ∷ l) h =
    let p = both (not (blank x)) (header_words ks (words (x ∷ l))) h in
    let w = first-word x l (not-true (blank x) p.0) in
    let q : header_words ks ((x ∷ w.0) ∷ w.1) ≡ true = ap (header_words ks) (sym w.2) ∙ p.1 in
    same_first x w.0 (bytes "%MatrixMarket") 37 (both (same (x ∷ w.0) (bytes "%%MatrixMarket")) _ q).0

-- ---- a line by what is read of its words

module _ {A B : Type 0} {f g : List (List ℕ) → Option A} (W : WordsAlike f g) (step : Option A → Step B) (b : B) (refused : step None ≡ goes b → ⊥) where
  read_some : (o : Option A) → step o ≡ goes b → (a : A) × (o ≡ Some a)
  read_some None e = absurd (refused e)
  read_some (Some a) e = (a, refl)

  pub line-anew : (l : List ℕ) → step (f (words l)) ≡ goes b → step (g (words (line_anew l))) ≡ goes b
  line-anew l e =
      let r = read_some (f (words l)) e in
      ap step (ap g (line_words l) ∙ W.anew (words l) r.0 r.1) ∙ ap step (sym r.1) ∙ e

  pub line_same : (l : List ℕ) → step (g (words l)) ≡ goes b → (step (f (words l)) ≡ goes b) × (line_anew l ≡ l)
  line_same l e =
      let r = read_some (g (words l)) e in
      let s = W.same (words l) r.0 r.1 in
      (ap step s.0 ∙ ap step (sym r.1) ∙ e, line_kept l s.1)

stops-not : {B : Type 0} {f : _} {b : B} → stops f ≡ goes b → ⊥
stops-not e = zero_one (cc)

-- ---- the three layouts

-- A header that is one of two begins as a comment does.
one_of_two : {A : Type 0} (ks ms : List (List ℕ)) (l : List ℕ) (x y z w : A) → cond (header ks l) x (cond (header ms l) y z) ≡ w → (z ≡ w → ⊥) → comment_line l ≡ true
one_of_two {A} ks ms l x y z w e ne = go (header ks l) refl (header ms l) refl e
  where
    go : (a : Bool) → header ks l ≡ a → (b : Bool) → header ms l ≡ b → cond a x (cond b y z) ≡ w → comment_line l ≡ true
    go true is b is' e = header-comment ks l is
    go false is true is' e = header-comment ms l is'
    go false is false is' e = absurd (ne e)

mapped_words : {A B : Type 0} (k : A → B) {f g : List (List ℕ) → Option A} → WordsAlike f g
    → WordsAlike (λ ws. option_map k (f ws)) (λ ws. option_map k (g ws))
mapped_words {A} {B} k {f} {g} W = record {
  anew = λ ws b e. let r = taken (f ws) b e in ap (λ (o : Option A). option_map k o) (W.anew ws r.0 r.1) ∙ r.2;
  same = λ ws b e.
      let r = taken (g ws) b e in
      let s = W.same ws r.0 r.1 in
      (ap (λ (o : Option A). option_map k o) s.0 ∙ r.2, s.1);
}
  where
    taken : (o : Option A) (b : B) → option_map k o ≡ Some b → (a : A) × (o ≡ Some a) × (Some (k a) ≡ Some b)
    taken None b e = zero_one (cc)
    taken (Some a) b e = (a, refl, e)

edges-alike : (field : Field) → WordsAlike (edge_on Old field) (edge_on New field)
edges-alike Field.Integer = three-words kept_naturals kept_naturals kept_integers
edges-alike Field.Pattern = mapped_words (λ e. (e.0, e.1, pos 0)) (two-words kept_naturals kept_naturals)

pub graph_follows : (field : Field) → Follows (graph_layout Old field) (graph_layout New field)
graph_follows field = record {
  header = λ l. refl;
  headed = headed;
  size = λ kind l b e. line-anew (three-words kept_naturals kept_naturals kept_naturals) (graph_sizes kind) b stops-not l e;
  later = λ b l c e. line-anew (edges-alike field) (graph_edge b) c stops-not l e;
  size_line_same = λ kind l b e. line_same (three-words kept_naturals kept_naturals kept_naturals) (graph_sizes kind) b stops-not l e;
  later_same = λ b l c e. line_same (edges-alike field) (graph_edge b) c stops-not l e;
  more = λ b. refl;
  result = λ b. refl;
}
  where
    headed : (l : List ℕ) (h : Kind) → graph_header field l ≡ goes h → comment_line l ≡ true
    headed l h e =
        one_of_two (bytes "matrix" ∷ bytes "coordinate" ∷ field_word field ∷ bytes "general" ∷ [])
        (bytes "matrix" ∷ bytes "coordinate" ∷ field_word field ∷ bytes "symmetric" ∷ []) l (goes Bipartite) (goes General) (stops Header) (goes h) e stops-not

-- The range stays that of the same rules.
pub numbers_follow : (ranges : Rules) (what : Numbers) (count : ℕ) → Follows (ranged_layout Old ranges what count) (ranged_layout New ranges what count)
numbers_follow ranges what count = record {
  header = λ l. refl;
  headed = headed;
  size = λ h l b e. line-anew (two-words kept_naturals kept_naturals) (number_sizes count) b stops-not l e;
  later = λ zs l c e. line-anew (one-word kept_integers) (number_value ranges what zs) c stops-not l e;
  size_line_same = λ h l b e. line_same (two-words kept_naturals kept_naturals) (number_sizes count) b stops-not l e;
  later_same = λ zs l c e. line_same (one-word kept_integers) (number_value ranges what zs) c stops-not l e;
  more = λ b. refl;
  result = λ b. refl;
}
  where
    headed : (l : List ℕ) (h : Unit {0}) → number_header l ≡ goes h → comment_line l ≡ true
    headed l h e =
        let ks = bytes "matrix" ∷ bytes "array" ∷ bytes "integer" ∷ bytes "general" ∷ [] in
        go (header ks l) refl e
      where
        go : (b : Bool) → header (bytes "matrix" ∷ bytes "array" ∷ bytes "integer" ∷ bytes "general" ∷ []) l ≡ b → cond b (goes tt) (stops Header) ≡ goes h → comment_line l ≡ true
        go true is e = header-comment (bytes "matrix" ∷ bytes "array" ∷ bytes "integer" ∷ bytes "general" ∷ []) l is
        go false is e = zero_one (cc)

pub subgraph_follows : (g : Graph) → Follows (subgraph_layout Old g) (subgraph_layout New g)
subgraph_follows g = record {
  header = λ l. refl;
  headed = λ l h e. headed l (subgraph_kind l) refl h e;
  size = λ h l b e. line-anew (three-words kept_naturals kept_naturals kept_naturals) (subgraph_sizes g) b stops-not l e;
  later = λ x l c e. line-anew (two-words kept_naturals kept_naturals) (subgraph_edge g x) c stops-not l e;
  size_line_same = λ h l b e. line_same (three-words kept_naturals kept_naturals kept_naturals) (subgraph_sizes g) b stops-not l e;
  later_same = λ x l c e. line_same (two-words kept_naturals kept_naturals) (subgraph_edge g x) c stops-not l e;
  more = λ b. refl;
  result = λ b. refl;
}
  where
    headed : (l : List ℕ) (o : Option Kind) → subgraph_kind l ≡ o → (h : Unit {0}) → subgraph_header g o ≡ goes h → comment_line l ≡ true
    headed l None is h e = zero_one (cc)
    headed l (Some kind) is h e =
        one_of_two (bytes "matrix" ∷ bytes "coordinate" ∷ bytes "pattern" ∷ bytes "general" ∷ [])
        (bytes "matrix" ∷ bytes "coordinate" ∷ bytes "pattern" ∷ bytes "symmetric" ∷ []) l (Some Bipartite) (Some General) None (Some kind) is
        (λ q. zero_one (cc))

-- ---- the readers, with their tests

-- Of a reader's tests only that of the text's length depends on the text.
module _ {H B R : Type 0} {L M : Layout H B R} (F : Follows L M) (ts : List Test) (text : List ℕ) (r : R) where
  abbrev length_test : List ℕ → List Test
  length_test s = once TextLength (text_fits s) ∷ []

  fits_anew : text_fits text ≡ true → text_fits (text_anew text) ≡ true
  fits_anew h = le-leb (length (text_anew text)) 32768 (omega (arith, text_length text, leb-true (length text) 32768 h))

  pub reader_anew : passing (ts ++ length_test text) (read_text L text) ≡ Ok r →
      passing (ts ++ length_test (text_anew text)) (read_text M (text_anew text)) ≡ Ok r
  reader_anew e =
      let p = passes (ts ++ length_test text) (read_text L text) r e in
      let q = passes_split ts (length_test text) p.0 in
      pass (ts ++ length_test (text_anew text)) (passes_join ts (length_test (text_anew text)) q.0 ((λ k l. fits_anew (q.1.0 0 (omega arith))), tt))
      (read_text M (text_anew text))
      ∙ read_anew F text r p.1

  pub reader_same : passing (ts ++ length_test text) (read_text M text) ≡ Ok r →
      (passing (ts ++ length_test text) (read_text L text) ≡ Ok r) × (text_anew text ≡ text)
  reader_same e =
      let p = passes (ts ++ length_test text) (read_text M text) r e in
      let s = read_same F text r p.1 in
      (pass (ts ++ length_test text) p.0 (read_text L text) ∙ s.0, s.1)

module _ (field : Field) (r c w : ℕ) (text : List ℕ) (g : Graph) where
  abbrev graph_lent : List Test
  graph_lent = once LentLength (eqb r most_edges && eqb c most_edges && eqb w most_edges) ∷ []

  pub graph_anew : read_graph_by Old field r c w text ≡ Ok g → read_graph_by New field r c w (text_anew text) ≡ Ok g
  unfolding read_graph_by
  graph_anew e = reader_anew (graph_follows field) graph_lent text g e

  pub graph_same : read_graph_by New field r c w text ≡ Ok g → (read_graph_by Old field r c w text ≡ Ok g) × (text_anew text ≡ text)
  unfolding read_graph_by
  graph_same e = reader_same (graph_follows field) graph_lent text g e

module _ (what : Numbers) (count n : ℕ) (text : List ℕ) (zs : List ℤ) where
  abbrev numbers_lent : List Test
  numbers_lent = once LentLength (eqb n count) ∷ once Sizes (up_to (most_numbers_by Old) count) ∷ []

  pub numbers_anew : read_numbers_by Old what count n text ≡ Ok zs → read_numbers_by New what count n (text_anew text) ≡ Ok zs
  unfolding read_numbers_by
  numbers_anew e =
      numbers_alike New Old New what what count (number_reader_tests_by Old count n (text_anew text)) (text_anew text) zs (λ k l. old_is_new what (get_or zs k (pos 0)))
      (reader_anew (numbers_follow Old what count) numbers_lent text zs e)

  -- Numbers in the old range.
  pub numbers_same : AlsoIn New what Old what zs → read_numbers_by New what count n text ≡ Ok zs →
      (read_numbers_by Old what count n text ≡ Ok zs) × (text_anew text ≡ text)
  unfolding read_numbers_by
  numbers_same w e =
      reader_same (numbers_follow Old what count) numbers_lent text zs
      (numbers_alike New New Old what what count (number_reader_tests_by New count n text) text zs w e)

module _ (g : Graph) (n : ℕ) (text : List ℕ) (x : List ℕ) where
  abbrev subgraph_lent : List Test
  subgraph_lent = once LentLength (graph_lengths g && eqb n g.edges) ∷ graph_tests g

  pub subgraph_anew : read_subgraph_by Old g n text ≡ Ok x → read_subgraph_by New g n (text_anew text) ≡ Ok x
  unfolding read_subgraph_by
  subgraph_anew e = reader_anew (subgraph_follows g) subgraph_lent text x e

  pub subgraph_same : read_subgraph_by New g n text ≡ Ok x → (read_subgraph_by Old g n text ≡ Ok x) × (text_anew text ≡ text)
  unfolding read_subgraph_by
  subgraph_same e = reader_same (subgraph_follows g) subgraph_lent text x e
