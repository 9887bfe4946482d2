-- What the writers of lines write: a number and a blank, a line of two numbers, the size line, the header line, and the line of an edge.
use mathlib.Core.Path.{◌≡◌, refl, sym, ap₂, ◌∙◌}
use mathlib.Core.List.{List, [], ◌∷◌, ◌++◌, append_assoc}
use Prim.Native.Nat.{ℕ, ◌+◌, ◌^◌, ◌≤◌, ◌<◌}
use native.Mathlib.Omega.{arith}
use borrow.Author.Tests.{ne_eqb}
use lib.ListN.{length, length-append}
use Rattle.graph.specs.declared.Kind.{Kind}
use Rattle.graph.specs.declared.Shape.{Shape}
use Rattle.graph.specs.Passed.{SizesHold}
use Rattle.layout.specs.declared.Field.{Field}
use Rattle.layout.specs.Text.{decimal, spaced, unlines}
use Rattle.layout.specs.GraphText.{header_text}
use Rattle.readback.proofs.Pieces.{unlines-append, length-line, length-no_line}
use Rattle.readback.proofs.Fits.{length_two, length_three, header-le, size_line_le}
use Rattle.digits.specs.declared.Writer.{Writer}
use Rattle.digits.specs.Appends.{Appends}
use Rattle.writer.specs.Written.{head_lines, marked_lines}
use Rattle.digits.proofs.Appending.{appends_none, appends_next, appends_same}
use Rattle.digits.proofs.Numbers.{ten_digits}

-- ---- lines of numbers

two_is : (u v : List ℕ) → (u ++ (32 ∷ [])) ++ (v ++ (10 ∷ [])) ≡ unlines (spaced (u ∷ v ∷ []) ∷ [])
unfolding unlines spaced
two_is u v = append_assoc u (32 ∷ []) (v ++ (10 ∷ [])) ∙ sym (append_assoc u (32 ∷ v) (10 ∷ []))

three_is : (u v w : List ℕ) → (u ++ (32 ∷ [])) ++ unlines (spaced (v ∷ w ∷ []) ∷ []) ≡ unlines (spaced (u ∷ v ∷ w ∷ []) ∷ [])
unfolding unlines spaced
three_is u v w = append_assoc u (32 ∷ []) ((v ++ (32 ∷ w)) ++ (10 ∷ [])) ∙ sym (append_assoc u (32 ∷ (v ++ (32 ∷ w))) (10 ∷ []))

two_le : (m n : ℕ) → m < 2 ^ 32 → n < 2 ^ 32 → length (unlines (spaced (decimal m ∷ decimal n ∷ []) ∷ [])) ≤ 22
two_le m n h k =
    omega (
      arith,
      length-line (spaced (decimal m ∷ decimal n ∷ [])) [],
      length-no_line,
      length_two (decimal m) (decimal n),
      ten_digits m h,
      ten_digits n k,
    )

three_le : (m n o : ℕ) → m < 2 ^ 32 → n < 2 ^ 32 → o < 2 ^ 32 → length (unlines (spaced (decimal m ∷ decimal n ∷ decimal o ∷ []) ∷ [])) ≤ 33
three_le m n o h k l =
    omega (
      arith,
      length-line (spaced (decimal m ∷ decimal n ∷ decimal o ∷ [])) [],
      length-no_line,
      length_three (decimal m) (decimal n) (decimal o),
      ten_digits m h,
      ten_digits n k,
      ten_digits o l,
    )

-- ---- what is written of them

-- A number, which came as m', and a byte.
pub field-short : {w v : Writer} {m m' : ℕ} (x : ℕ) → m < 2 ^ 32 → m' ≡ m → Appends w (decimal m' ++ (x ∷ [])) v → v.at ≤ w.at + 11
field-short {m = m} {m' = m'} x h e a =
    let short : length (decimal m') ≤ 10 = rw e (ten_digits m h) in
    omega (arith, a.puts.place, length-append (decimal m') (x ∷ []))

pub pair_appends : {w v u : Writer} {m n m' n' : ℕ} → w.at + 32 ≤ length w.out.now → m < 2 ^ 32 → n < 2 ^ 32 → m' ≡ m → n' ≡ n
    → Appends w (decimal m' ++ (32 ∷ [])) v → Appends v (decimal n' ++ (10 ∷ [])) u → Appends w (unlines (spaced (decimal m ∷ decimal n ∷ []) ∷ [])) u
pair_appends {m = m} {n = n} room h k e f a b =
    appends_same (appends_next (rw e at a) (rw f at b) (omega (arith, field-short 32 h e a, field-short 10 k f b))) (two_is (decimal m) (decimal n))

pub sizes_append : {w v u : Writer} {m n o m' : ℕ} → w.at + 43 ≤ length w.out.now → m < 2 ^ 32 → n < 2 ^ 32 → o < 2 ^ 32 → m' ≡ m
    → Appends w (decimal m' ++ (32 ∷ [])) v → Appends v (unlines (spaced (decimal n ∷ decimal o ∷ []) ∷ [])) u
    → Appends w (unlines (spaced (decimal m ∷ decimal n ∷ decimal o ∷ []) ∷ [])) u
sizes_append {m = m} {n = n} {o = o} room hm hn ho e a b =
    appends_same (appends_next (rw e at a) b (omega (arith, field-short 32 hm e a, b.puts.place, two_le n o hn ho)))
    (three_is (decimal m) (decimal n) (decimal o))

-- ---- the header line, and both

header-line_le : (f : Field) (k : Kind) → length (unlines (header_text f k ∷ [])) ≤ 51
header-line_le f k = omega (arith, length-line (header_text f k) [], length-no_line, header-le f k)

-- The header line as it stands in the code.
header-end : (f : Field) (k : Kind) → unlines (header_text f k ∷ []) ≡ header_text f k ++ (10 ∷ [])
unfolding unlines
header-end f k = refl

pub header_appends : {w v : Writer} (f : Field) (k : Kind) {f' : Field} {k' : Kind} → f ≡ f' → k ≡ k' → Appends w (header_text f' k' ++ (10 ∷ [])) v
    → Appends w (unlines (header_text f k ∷ [])) v
header_appends f k {f'} {k'} i j a = appends_same a (sym (ap₂ (λ (a : Field) (b : Kind). unlines (header_text a b ∷ [])) i j ∙ header-end f' k'))

pub header_at : {w v : Writer} (f : Field) (k : Kind) → Appends w (unlines (header_text f k ∷ [])) v → v.at ≤ w.at + 51
header_at f k a = omega (arith, a.puts.place, header-line_le f k)

-- Both lines of a graph that has passed have at most 64 bytes.
pub head-le : (f : Field) (s : Shape) (count : ℕ) → SizesHold s.kind s.rows s.columns s.edges → count ≤ 1024
    → length (unlines (head_lines f s count)) ≤ 64
head-le f s count S few =
    let sizes = spaced (decimal s.rows ∷ decimal s.columns ∷ decimal count ∷ []) in
    omega (
      arith,
      length-line (header_text f s.kind) (sizes ∷ []),
      length-line sizes [],
      length-no_line,
      header-le f s.kind,
      size_line_le s.rows s.columns count S.rows.greatest S.columns.greatest few,
    )

pub head_appends : {w v u : Writer} (f : Field) (s : Shape) (o : ℕ) → w.at + 128 ≤ length w.out.now → s.rows < 2 ^ 32 → s.columns < 2 ^ 32 → o < 2 ^ 32
    → Appends w (unlines (header_text f s.kind ∷ [])) v → Appends v (unlines (spaced (decimal s.rows ∷ decimal s.columns ∷ decimal o ∷ []) ∷ [])) u
    → Appends w (unlines (head_lines f s o)) u
head_appends f s o room hm hn ho a b =
    appends_same (appends_next a b (omega (arith, header_at f s.kind a, b.puts.place, three_le s.rows s.columns o hm hn ho)))
    (sym (unlines-append (header_text f s.kind ∷ []) (spaced (decimal s.rows ∷ decimal s.columns ∷ decimal o ∷ []) ∷ [])))

-- ---- the line of an edge

nothing : [] ≡ unlines []
unfolding unlines
nothing = refl

pub edge_unchosen : (w : Writer) (r c mark : ℕ) → (mark ≡ 1 → ⊥) → Appends w (unlines (marked_lines r c mark)) w
edge_unchosen w r c mark h = rw (ne_eqb mark 1 h) (appends_same (appends_none w) nothing)
