-- The Matrix Market layout: bytes, lines, words, numbers and headers. A text is the list of its bytes.
use Rattle.std.specs.Prelude.{ℕ, zero, suc, ◌+◌, ◌*◌, ◌-◌, ◌/◌, ◌%◌, Bool, true, false, not, cond, ◌&&◌, ◌||◌, List, [], ◌∷◌, ◌++◌, map, eqb, leb, ltb, ℤ, pos, negsuc, neg_ℤ, length, Option, None, Some, option_map}
use Rattle.graph.specs.Limits.{longest_text, longest_line}
use Prim.Native.String.{String, [] as []ˢ, ◌∷◌ as ◌∷ˢ◌}
use Prim.Native.Char.{code}
use Rattle.layout.specs.declared.Rules.{Rules}
use Rattle.layout.specs.declared.Rules.TheVariants.{New, Old}

-- The bytes of a text that is written out.
abbrev pub bytes : String → List ℕ
bytes []ˢ = []
bytes (c ∷ˢ s) = code c ∷ bytes s

-- Lines end at byte 10. Blanks are spaces and tabs.
abbrev pub newline : ℕ → Bool
newline x = eqb x 10

abbrev pub blank : ℕ → Bool
blank x = eqb x 32 || eqb x 9

-- The pieces ls, of which x begins the first.
unfoldable pub on_first : ℕ → List (List ℕ) → List (List ℕ)
on_first x [] = (x ∷ []) ∷ []
on_first x (l ∷ ls) = (x ∷ l) ∷ ls

-- A text cut at each byte for which ends holds. That byte is in no piece, the last piece may lack it, and nothing after the last such byte is no piece.
unfoldable pub pieces : (ℕ → Bool) → List ℕ → List (List ℕ)
pieces ends [] = []
pieces ends (x ∷ xs) = cond (ends x) ([] ∷ pieces ends xs) (on_first x (pieces ends xs))

unfoldable pub non_empty : List (List ℕ) → List (List ℕ)
non_empty [] = []
non_empty ([] ∷ ls) = non_empty ls
non_empty ((x ∷ l) ∷ ls) = (x ∷ l) ∷ non_empty ls

-- The lines of a text, and the words of a line, which one or more blanks separate.
unfoldable pub lines : List ℕ → List (List ℕ)
lines text = pieces newline text

unfoldable pub words : List ℕ → List (List ℕ)
words line = non_empty (pieces blank line)

-- A digit is one of the bytes 48 to 57.
abbrev pub digit : ℕ → Bool
digit x = leb 48 x && leb x 57

-- The number that the digits ds make when they are written after the number n.
unfoldable pub digits_after : ℕ → List ℕ → Option ℕ
digits_after n [] = Some n
digits_after n (d ∷ ds) = cond (digit d) (digits_after (n * 10 + (d - 48)) ds) None

-- 1 to 9 digits, as the number that they make.
unfoldable pub numeral : List ℕ → Option ℕ
numeral w = cond (leb 1 (length w) && leb (length w) 9) (digits_after 0 w) None

-- A leading zero: the word has two bytes or more, and begins with 0 (byte 48).
abbrev pub padded : List ℕ → Bool
padded [] = false
padded (x ∷ []) = false
padded (x ∷ y ∷ w) = eqb x 48

-- A size or an index: 1 to 9 digits, with no leading zero unless it is the single digit 0. The old rules take leading zeros, which count.
unfoldable pub natural : Rules → List ℕ → Option ℕ
natural New w = cond (padded w) None (numeral w)
natural Old w = numeral w

-- What may stand after a sign, of the number that stands there. No + is taken, and no -0; the old rules take both.
abbrev pub above_zero : Option ℕ → Option ℕ
above_zero None = None
above_zero (Some n) = cond (eqb n 0) None (Some n)

abbrev pub value_after_plus : Rules → Option ℕ → Option ℕ
value_after_plus New n = None
value_after_plus Old n = n

abbrev pub value_after_minus : Rules → Option ℕ → Option ℕ
value_after_minus New n = above_zero n
value_after_minus Old n = n

-- A number written as a merit is: a size, or one after - (byte 45), or, by the old rules, after + (byte 43).
unfoldable pub integer : Rules → List ℕ → Option ℤ
integer rules [] = None
integer rules (x ∷ w) =
    cond (eqb x 43) (option_map pos (value_after_plus rules (natural rules w)))
    (cond (eqb x 45) (option_map (λ n. neg_ℤ (pos n)) (value_after_minus rules (natural rules w))) (option_map pos (natural rules (x ∷ w))))

-- Both, or all three, where none is absent.
abbrev pub pair_of_options : {A B : Type 0} → Option A → Option B → Option (A × B)
pair_of_options None b = None
pair_of_options (Some a) None = None
pair_of_options (Some a) (Some b) = Some (a, b)

abbrev pub all3 : {A B C : Type 0} → Option A → Option B → Option C → Option (A × B × C)
all3 None b c = None
all3 (Some a) None c = None
all3 (Some a) (Some b) None = None
all3 (Some a) (Some b) (Some c) = Some (a, b, c)

-- A line of one, two or three words, each read as a number.
unfoldable pub one_word : {A : Type 0} → (List ℕ → Option A) → List (List ℕ) → Option A
one_word f [] = None
one_word f (u ∷ []) = f u
one_word f (u ∷ v ∷ ws) = None

unfoldable pub two_words : {A B : Type 0} → (List ℕ → Option A) → (List ℕ → Option B) → List (List ℕ) → Option (A × B)
two_words f g [] = None
two_words f g (u ∷ []) = None
two_words f g (u ∷ v ∷ []) = pair_of_options (f u) (g v)
two_words f g (u ∷ v ∷ w ∷ ws) = None

unfoldable pub three_words :
    {A B C : Type 0} → (List ℕ → Option A) → (List ℕ → Option B) → (List ℕ → Option C) → List (List ℕ) → Option (A × B × C)
three_words f g h [] = None
three_words f g h (u ∷ []) = None
three_words f g h (u ∷ v ∷ []) = None
three_words f g h (u ∷ v ∷ w ∷ []) = all3 (f u) (g v) (h w)
three_words f g h (u ∷ v ∷ w ∷ x ∷ ws) = None

-- A blank line is empty or of blanks only. A comment line begins with % (byte 37).
abbrev pub no_words : List (List ℕ) → Bool
no_words [] = true
no_words (w ∷ ws) = false

abbrev pub blank_line : List ℕ → Bool
blank_line l = no_words (words l)

abbrev pub starts_with : ℕ → List ℕ → Bool
starts_with b [] = false
starts_with b (x ∷ l) = eqb x b

abbrev pub comment_line : List ℕ → Bool
comment_line l = starts_with 37 l

-- A to Z as a to z, and every other byte as it is.
abbrev pub lower : ℕ → ℕ
lower x = cond (leb 65 x && leb x 90) (x + 32) x

-- Two words are the same bytes.
unfoldable pub same : List ℕ → List ℕ → Bool
same [] [] = true
same [] (y ∷ ys) = false
same (x ∷ xs) [] = false
same (x ∷ xs) (y ∷ ys) = eqb x y && same xs ys

-- The words ws are the words ks, their case folded.
unfoldable pub same_folded : List (List ℕ) → List (List ℕ) → Bool
same_folded [] [] = true
same_folded [] (k ∷ ks) = false
same_folded (w ∷ ws) [] = false
same_folded (w ∷ ws) (k ∷ ks) = same (map lower w) k && same_folded ws ks

-- The first word is %%MatrixMarket and keeps its case; the others, in either case, are ks.
unfoldable pub header_words : List (List ℕ) → List (List ℕ) → Bool
header_words ks [] = false
header_words ks (w ∷ ws) = same w (bytes "%%MatrixMarket") && same_folded ws ks

-- The first word begins the line.
abbrev pub begins : List ℕ → Bool
begins [] = false
begins (x ∷ l) = not (blank x)

-- A header line, with ks the words after the first.
unfoldable pub header : List (List ℕ) → List ℕ → Bool
header ks l = begins l && header_words ks (words l)

-- A text has at most 32,768 bytes, and a line at most 1,024 before its byte 10.
abbrev pub text_fits : List ℕ → Bool
text_fits text = leb (length text) longest_text

abbrev pub line_fits : List ℕ → Bool
line_fits l = leb (length l) longest_line

-- How a number is written: its digits, with no leading zero. A number below 10 ^ k has at most k digits; one of 64 bits has at most 20.
unfoldable pub digits : ℕ → ℕ → List ℕ
digits zero n = []
digits (suc k) n = cond (ltb n 10) ((48 + n) ∷ []) (digits k (n / 10) ++ ((48 + n % 10) ∷ []))

abbrev pub decimal : ℕ → List ℕ
decimal n = digits 20 n

-- A number with its sign: - (byte 45) before one below 0.
abbrev pub signed : ℤ → List ℕ
signed (pos n) = decimal n
signed (negsuc n) = 45 ∷ decimal (suc n)

-- Words with one blank between them, and lines with byte 10 after each.
unfoldable pub spaced : List (List ℕ) → List ℕ
spaced [] = []
spaced (w ∷ []) = w
spaced (w ∷ v ∷ ws) = w ++ (32 ∷ spaced (v ∷ ws))

unfoldable pub unlines : List (List ℕ) → List ℕ
unlines [] = []
unlines (l ∷ ls) = l ++ (10 ∷ unlines ls)
