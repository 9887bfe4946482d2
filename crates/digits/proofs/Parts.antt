-- Words with one blank between them, as they are written.
use mathlib.Core.Path.{◌≡◌, ap, ◌∙◌}
use mathlib.Core.List.{List, [], ◌∷◌, ◌++◌, append_assoc}
use Prim.Native.Nat.{ℕ}
use lib.Seq.{append_snoc}
use Rattle.layout.specs.Text.{spaced}

-- Two words with a blank after each, and one more word.
pub blanked : (u v w : List ℕ) → ((u ++ (32 ∷ [])) ++ (v ++ (32 ∷ []))) ++ w ≡ spaced (u ∷ v ∷ w ∷ [])
unfolding spaced
blanked u v w =
    append_assoc (u ++ (32 ∷ [])) (v ++ (32 ∷ [])) w ∙ ap (λ (l : List ℕ). (u ++ (32 ∷ [])) ++ l) (append_snoc v 32 w) ∙ append_snoc u 32 (v ++ (32 ∷ w))
