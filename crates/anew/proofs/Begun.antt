-- The lines of a text, where its numbers have begun before them or not.
use mathlib.Core.Path.{◌≡◌, refl, ap, ◌∙◌}
use mathlib.Core.Bool.{Bool, true, false, not, ◌||◌}
use mathlib.Core.List.{List, [], ◌∷◌, map}
use Prim.Native.Nat.{ℕ}
use Rattle.layout.specs.Text.{blank_line, comment_line}
use Rattle.layout.specs.Rewrite.{line_anew, lines_anew}
use Rattle.rewriting.proofs.Anew.{lines_none, lines-before, lines-from}
use Rattle.anew.specs.Anew.{line_from}

-- The lines anew, where the numbers have begun before them or not.
abbrev pub lines_from : Bool → List (List ℕ) → List (List ℕ)
lines_from true ls = map line_anew ls
lines_from false ls = lines_anew ls

pub from_none : (b : Bool) → lines_from b [] ≡ []
from_none true = refl
from_none false = lines_none

-- The next line, and the lines after it.
pub from_more : (before now : Bool) (l : List ℕ) (ls : List (List ℕ)) → now ≡ (before || not (blank_line l || comment_line l)) →
    lines_from before (l ∷ ls) ≡ line_from now l ∷ lines_from now ls
from_more true now l ls e = rw e
from_more false now l ls e = go (blank_line l || comment_line l) refl
  where
    go : (b : Bool) → (blank_line l || comment_line l) ≡ b → lines_anew (l ∷ ls) ≡ line_from now l ∷ lines_from now ls
    go true is = let f : now ≡ false = e ∙ ap not is in rw f (lines-before l ls is)
    go false is = let t : now ≡ true = e ∙ ap not is in rw t (lines-from l ls is)
