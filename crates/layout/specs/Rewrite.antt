-- The text that `rewrite` writes of an old text (request U2): its numbers, on the size line and the later lines, written in the one way; every other
-- byte is copied.
use Rattle.std.specs.Prelude.{ℕ, suc, Bool, true, false, cond, ◌||◌, List, [], ◌∷◌, ◌++◌, map, ℤ, Option, None, Some, Ok, Err}
use Rattle.graph.specs.Limits.{most_edges, most_old_numbers}
use Rattle.graph.specs.Refusal.{Outcome, refuses}
use Rattle.graph.specs.Graph.{some?}
use Rattle.layout.specs.declared.Rules.TheVariants.{Old}
use Rattle.layout.specs.declared.Field.{Field}
use Rattle.layout.specs.declared.Numbers.{Numbers}
use Rattle.layout.specs.declared.Numbers.TheVariants.{Bounds, Prices}
use Rattle.layout.specs.Text.{bytes, newline, blank, pieces, lines, integer, blank_line, comment_line, signed, unlines}
use Rattle.layout.specs.GraphText.{read_graph_by}
use Rattle.layout.specs.NumberText.{read_numbers_by}

-- The bytes of a text that end its pieces, and pieces with such bytes after them. A text is its pieces with the bytes that end them.
unfoldable pub ending : (ℕ → Bool) → List ℕ → List ℕ
ending ends [] = []
ending ends (x ∷ xs) = cond (ends x) (x ∷ ending ends xs) (ending ends xs)

unfoldable pub woven : List (List ℕ) → List ℕ → List ℕ
woven [] es = []
woven (p ∷ ps) [] = p ++ woven ps []
woven (p ∷ ps) (e ∷ es) = p ++ (e ∷ woven ps es)

-- A word that the old rules take for a number, as that number is written; any other as it is.
abbrev pub written_as : List ℕ → Option ℤ → List ℕ
written_as w None = w
written_as w (Some z) = signed z

abbrev pub word_anew : List ℕ → List ℕ
word_anew w = written_as w (integer Old w)

-- A line with each of its words anew, and its blanks as they are.
unfoldable pub line_anew : List ℕ → List ℕ
line_anew l = woven (map word_anew (pieces blank l)) (ending blank l)

-- The lines from the size line on anew. Those before it, which are blank or begin with %, as the header does, are copied.
unfoldable pub lines_anew : List (List ℕ) → List (List ℕ)
lines_anew [] = []
lines_anew (l ∷ ls) = cond (blank_line l || comment_line l) (l ∷ lines_anew ls) (map line_anew (l ∷ ls))

-- A text with its lines anew; the last still lacks its byte 10 where it did.
unfoldable pub text_anew : List ℕ → List ℕ
text_anew text = woven (lines_anew (lines text)) (ending newline text)

-- ---- what the old rules take

abbrev pub takes : {A : Type 0} → Outcome A → Bool
takes (Ok a) = true
takes (Err refusal) = false

-- As a graph (sheet); as a subgraph (plan) of some graph, which is a text of a graph without weights; as bounds (limits) or prices of some count.
abbrev pub taken_as : Field → List ℕ → Bool
taken_as field text = takes (read_graph_by Old field most_edges most_edges most_edges text)

abbrev pub taken_as_numbers : Numbers → List ℕ → Bool
taken_as_numbers what text = some? most_old_numbers (λ k. takes (read_numbers_by Old what (suc k) (suc k) text))

unfoldable pub taken : List ℕ → Bool
taken text = taken_as Field.Integer text || taken_as Field.Pattern text || taken_as_numbers Bounds text || taken_as_numbers Prices text

-- What `rewrite` writes of the text of old.mtx: the text anew, or only the line `cannot read` where the old rules refuse it as each of these.
unfoldable pub rewrite_output : List ℕ → List ℕ
rewrite_output text = cond (taken text) (text_anew text) (unlines (bytes "cannot read" ∷ []))
