-- The text of bounds (limits) or of prices: what the number reader yields, and how numbers are written.
use Rattle.std.specs.Prelude.{ℕ, Bool, cond, ◌&&◌, List, [], ◌∷◌, ◌++◌, map, ltb, eqb, ℤ, pos, length, Option, None, Some}
use Rattle.integers.specs.Integer.{between}
use Rattle.graph.specs.declared.Fault.{Fault}
use Rattle.graph.specs.declared.Fault.TheVariants.{TextLength, Header, SizeLine, Sizes, LaterLine, LentLength, Bound, Price}
use Rattle.graph.specs.Limits.{most_numbers, most_old_numbers, greatest_price, greatest_old_price}
use Rattle.graph.specs.Refusal.{Outcome, Test, once, passing}
use Rattle.graph.specs.Graph.{up_to, bound_in_range}
use Rattle.layout.specs.declared.Rules.{Rules}
use Rattle.layout.specs.declared.Rules.TheVariants.{New, Old}
use Rattle.layout.specs.declared.Numbers.{Numbers}
use Rattle.layout.specs.declared.Numbers.TheVariants.{Bounds, Prices}
use Rattle.layout.specs.Text.{bytes, words, natural, integer, one_word, two_words, header, text_fits, decimal, signed, spaced, unlines}
use Rattle.layout.specs.Lines.{Step, goes, stops, Layout, read_text}

-- How many numbers a text may have, and how great a price may be, by the rules.
abbrev pub most_numbers_by : Rules → ℕ
most_numbers_by New = most_numbers
most_numbers_by Old = most_old_numbers

abbrev pub greatest_price_by : Rules → ℕ
greatest_price_by New = greatest_price
greatest_price_by Old = greatest_old_price

-- The range of each sort of number, and the fault outside it.
abbrev pub in_range : Rules → Numbers → ℤ → Bool
in_range rules Bounds z = bound_in_range z
in_range rules Prices z = between (pos 0) (pos (greatest_price_by rules)) z

abbrev pub outside : Numbers → Fault
outside Bounds = Bound
outside Prices = Price

-- Header: `%%MatrixMarket matrix array integer general`.
abbrev pub number_header : List ℕ → Step (Unit {0})
number_header l = cond (header (bytes "matrix" ∷ bytes "array" ∷ bytes "integer" ∷ bytes "general" ∷ []) l) (goes tt) (stops Header)

-- Size line: the count asked for, and 1.
abbrev pub number_sizes : ℕ → Option (ℕ × ℕ) → Step (List ℤ)
number_sizes count None = stops SizeLine
number_sizes count (Some s) = cond (eqb s.0 count && eqb s.1 1) (goes []) (stops Sizes)

-- The judge of a number, by the rules, its sort and those read before it: it is taken after them, or refused with a fault. No sort looks at those before it.
abbrev pub number_judged : Rules → Numbers → List ℤ → ℤ → Step (List ℤ)
number_judged rules what zs z = cond (in_range rules what z) (goes (zs ++ (z ∷ []))) (stops (outside what))

-- Then one number a line.
abbrev pub number_value : Rules → Numbers → List ℤ → Option ℤ → Step (List ℤ)
number_value rules what zs None = stops LaterLine
number_value rules what zs (Some z) = number_judged rules what zs z

abbrev pub number_layout : Rules → Numbers → ℕ → Layout (Unit {0}) (List ℤ) (List ℤ)
number_layout rules what count = record {
  header_line = number_header;
  size_line = λ h l. number_sizes count (two_words (natural rules) (natural rules) (words l));
  later_line = λ zs l. number_value rules what zs (one_word (integer rules) (words l));
  more = λ zs. ltb (length zs) count;
  result = λ zs. zs;
}

-- The tests before the lines are read by these rules, where count numbers are asked for and the output has n: its length (9), the count (4), and the
-- text's length (1); and those of the number reader.
abbrev pub number_reader_tests_by : Rules → ℕ → ℕ → List ℕ → List Test
number_reader_tests_by rules count n text = once LentLength (eqb n count) ∷ once Sizes (up_to (most_numbers_by rules) count) ∷ once TextLength (text_fits text) ∷ []

abbrev pub number_reader_tests : ℕ → ℕ → List ℕ → List Test
number_reader_tests count n text = number_reader_tests_by New count n text

-- What is yielded of a text by these rules, where count numbers of a sort are asked for; and what the number reader yields.
unfoldable pub read_numbers_by : Rules → Numbers → ℕ → ℕ → List ℕ → Outcome (List ℤ)
read_numbers_by rules what count n text = passing (number_reader_tests_by rules count n text) (read_text (number_layout rules what count) text)

abbrev pub read_numbers : Numbers → ℕ → ℕ → List ℕ → Outcome (List ℤ)
read_numbers what count n text = read_numbers_by New what count n text

-- The text that numbers are written as: the header, how many they are and 1, and a number a line.
unfoldable pub number_text : List ℤ → List ℕ
number_text zs = unlines (bytes "%%MatrixMarket matrix array integer general" ∷ spaced (decimal (length zs) ∷ decimal 1 ∷ []) ∷ map signed zs)
