-- An item of the second list, by its place after the first.
use Rattle.std.proofs.Common.{ℕ, ◌+◌, ◌-◌, ◌≤◌, ◌<◌, ◌≡◌, ◌++◌, ◌∷◌, [], length, get_or, take, arith, List, ◌∙◌, ap, sym}
use Rattle.std.proofs.lemmas.List.{take_more, length-append}
use Rattle.std.proofs.Math.Seq.{get_or-append_right}
use Rattle.doubler.proofs.item_of.Goals as goal

take_second : {A : Type 0} (xs ys : List A) (i : ℕ) (x : A) → i < length xs + length ys → length xs ≤ i → x ≡ get_or ys (i - length xs) x → take (i + 1) (xs ++ ys) ≡ take i (xs ++ ys) ++ x ∷ []
take_second xs ys i x low high is =
    take_more (xs ++ ys) i x (omega (arith, low, length-append xs ys))
    ∙ ap (λ y. take i (xs ++ ys) ++ y ∷ []) (get_or-append_right xs ys i x high ∙ sym is)

pub returns-else-i-n : goal.returns-else-i-n
returns-else-i-n g c = take_second c.args.first.now c.args.second.now c.args.i c.index-second-i.result c.requires c.if-i-n.false c.index-second-i.is
