-- One more item is set.
use Rattle.std.proofs.Common.{ℕ, ◌+◌, ◌-◌, ◌<◌, ◌≡◌, ◌++◌, ◌∷◌, [], length, set, take, drop, arith, List, append_assoc, ◌∙◌, ap, sym, add-one, drop-cons}
use Rattle.std.proofs.lemmas.List.{length-append, length-take-le, set-append_right}
use Rattle.doubler.proofs.join.Goals as goal

set_item : {A : Type 0} (l s : List A) (i : ℕ) (x : A) → i < length l → length l ≡ length s → take (i + 1) s ≡ take i s ++ x ∷ [] → set (take i s ++ drop i l) i x ≡ take (i + 1) s ++ drop (i + 1) l
set_item l s i x low long next =
    let none : i - i ≡ 0 = omega arith in
    set-append_right (take i s) (drop i l) i i x (length-take-le i s (omega (arith, low, long))) (omega arith)
    ∙ ap (λ k. take i s ++ set (drop i l) k x) none
    ∙ ap (λ r. take i s ++ set r 0 x) (drop-cons l i x low)
    ∙ ap (λ n. take i s ++ x ∷ drop n l) (sym (add-one i))
    ∙ sym (append_assoc (take i s) (x ∷ []) (drop (i + 1) l))
    ∙ ap (λ r. r ++ drop (i + 1) l) (sym next)

pub loop-i-preserved : goal.loop-i-preserved
loop-i-preserved g c =
    let s = c.args.first.now ++ c.args.second.now in
    let long : length c.args.out.now ≡ length s = c.requires ∙ sym (length-append c.args.first.now c.args.second.now) in
    let h : c.loop-i.i < length c.args.out.now = omega arith in
    rw c.loop-i.invariant (set_item c.args.out.now s c.loop-i.i c.item_of.result h long c.item_of.ensures)
