-- What the writers of lines write, and the whole text.
use mathlib.Core.Path.{◌≡◌, refl, sym, ap, ◌∙◌, subst}
use mathlib.Core.List.{List, [], ◌∷◌, ◌++◌, append_assoc}
use Prim.Native.Nat.{ℕ, ◌+◌, ◌≤◌}
use native.Mathlib.Omega.{arith}
use lib.IntN.{ℤ}
use lib.ListN.{length}
use lib.Seq.{append_snoc}
use mir.Syntax.{w64}
use Rattle.graph.specs.Limits.{longest_text}
use Rattle.graph.specs.Graph.{Graph}
use Rattle.graph.specs.Passed.{Passed}
use Rattle.layout.specs.Text.{bytes, decimal, signed, spaced, unlines}
use Rattle.layout.specs.AssignmentText.{problem_line, source_line, source_lines, arc_lines, assignment_text}
use Rattle.readback.proofs.Accepted.{small}
use Rattle.assignments.proofs.Fits.{assignment_parts, problem_text_le, sources_le, arcs_le}
use mir.Val.{SFits}
use mir.ValLaws.{to_z-of_z}
use Rattle.digits.specs.declared.Writer.{Writer}
use Rattle.digits.specs.Appends.{Appends}
use Rattle.digits.proofs.Appending.{appends_next, appends_same}
use Rattle.digits.proofs.Signs.{from_bits}
use Rattle.digits.proofs.Parts.{blanked}

-- ---- the problem line

problem_is : (n m : List ℕ) → (bytes "p asn " ++ (n ++ (32 ∷ []))) ++ (m ++ (10 ∷ [])) ≡ unlines (spaced (bytes "p" ∷ bytes "asn" ∷ n ∷ m ∷ []) ∷ [])
unfolding unlines spaced
problem_is n m = ap (λ (l : List ℕ). bytes "p asn " ++ l) (append_snoc n 32 (m ++ (10 ∷ [])) ∙ sym (append_assoc n (32 ∷ m) (10 ∷ [])))

pub problem_appends : {w v u t : Writer} {n m n' m' : ℕ} → w.at + 48 ≤ length w.out.now → n' ≡ n → m' ≡ m → Appends w (bytes "p asn ") v
    → Appends v (decimal n' ++ (32 ∷ [])) u → u.at ≤ v.at + 21 → Appends u (decimal m' ++ (10 ∷ [])) t → t.at ≤ u.at + 21
    → Appends w (unlines (spaced (bytes "p" ∷ bytes "asn" ∷ decimal n ∷ decimal m ∷ []) ∷ [])) t
problem_appends {n = n} {m = m} room e f a b k c j =
    appends_same (appends_next (appends_next a (rw e at b) (omega (arith, a.puts.place))) (rw f at c) (omega (arith, a.puts.place)))
    (problem_is (decimal n) (decimal m))

-- ---- the line of a source node

source_is : (v : ℕ) → bytes "n " ++ (decimal (v + 1) ++ (10 ∷ [])) ≡ unlines (source_line v ∷ [])
unfolding unlines spaced
source_is v = refl

pub source_appends : {w v u : Writer} {n : ℕ} (x : ℕ) → w.at + 23 ≤ length w.out.now → Appends w (bytes "n ") v → n ≡ x + 1
    → Appends v (decimal n ++ (10 ∷ [])) u → u.at ≤ v.at + 21 → Appends w (unlines (source_line x ∷ [])) u
source_appends x room a is b k =
    appends_same (appends_next a b (omega (arith, a.puts.place))) (ap (λ (j : ℕ). bytes "n " ++ (decimal j ++ (10 ∷ []))) is ∙ source_is x)

-- ---- the line of an arc

-- The letter, the row r and the node t, each with a blank, and the cost.
abbrev pub arc_front : ℕ → ℕ → ℤ → List ℕ
arc_front r t cost = ((bytes "a " ++ (decimal r ++ (32 ∷ []))) ++ (decimal t ++ (32 ∷ []))) ++ signed cost

arc_is : (r t : ℕ) (cost : ℤ) → arc_front r t cost ++ (10 ∷ []) ≡ unlines (spaced (bytes "a" ∷ decimal r ∷ decimal t ∷ signed cost ∷ []) ∷ [])
unfolding unlines spaced
arc_is r t cost =
    let ends = bytes "a " ++ (decimal r ++ (32 ∷ [])) in
    ap (λ (l : List ℕ). l ++ (10 ∷ []))
    (append_assoc ends (decimal t ++ (32 ∷ [])) (signed cost)
    ∙ ap (λ (l : List ℕ). ends ++ l) (append_snoc (decimal t) 32 (signed cost))
    ∙ blanked (bytes "a") (decimal r) (decimal t ++ (32 ∷ signed cost)))

-- The row came as r', the node as t', and the cost as z.
pub arc_appends : {w v u x y f : Writer} (r t : ℕ) (cost : ℤ) {r' t' : ℕ} {z : ℤ} → w.at + 66 ≤ length w.out.now → r' ≡ r → t' ≡ t → z ≡ cost → SFits w64 z
    → Appends w (bytes "a ") v → Appends v (decimal r' ++ (32 ∷ [])) u → u.at ≤ v.at + 21 → Appends u (decimal t' ++ (32 ∷ [])) x → x.at ≤ u.at + 21
    → Appends x (signed (from_bits z)) y → y.at ≤ x.at + 21 → Appends y (10 ∷ []) f
    → Appends w (unlines (spaced (bytes "a" ∷ decimal r ∷ decimal t ∷ signed cost ∷ []) ∷ [])) f
arc_appends {x = x} {y = y} r t cost {z = z} room e g is fits a b i c j d k n =
    let ends = appends_next (appends_next a (rw e at b) (omega (arith, a.puts.place))) (rw g at c) (omega (arith, a.puts.place)) in
    let z-is : from_bits z ≡ cost = to_z-of_z w64 z fits ∙ is in
    appends_same (appends_next (appends_next ends (subst (λ (q : ℤ). Appends x (signed q) y) z-is d) (omega (arith, a.puts.place))) n (omega (arith, a.puts.place, n.puts.place)))
    (arc_is r t cost)

-- ---- the whole text

module _ {g : Graph} (P : Passed g) {w v : Writer} (start : w.at ≡ 0) (long : length w.out.now ≡ longest_text) (a : Appends w (unlines (problem_line g ∷ [])) v) where
  -- There is room for the sources after the problem line, and for the arcs after them.
  pub sources_room : v.at + 1024 ≤ length v.out.now
  sources_room = omega (arith, a.puts.place, a.long, problem_text_le P)

  module _ {u : Writer} (b : Appends v (unlines (source_lines g.rows)) u) where
    sources_end : u.at ≤ 783
    sources_end = omega (arith, a.puts.place, b.puts.place, problem_text_le P, sources_le P g.rows (omega arith), (small g P.sound).rows_small)

    pub arcs_room : u.at + 20000 ≤ length u.out.now
    arcs_room = omega (arith, sources_end, a.long, b.long)

    pub text_appends : {t : Writer} → Appends u (unlines (arc_lines g g.edges)) t → Appends w (assignment_text g) t
    text_appends {t} c =
        let fits : t.at ≤ length w.out.now = omega (arith, c.puts.place, sources_end, arcs_le P g.edges (omega arith), (small g P.sound).edges_few) in
        appends_same (appends_next a (appends_next b c (omega (arith, a.long))) fits) (sym (assignment_parts g))
