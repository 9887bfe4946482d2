-- One more number is set.
use Rattle.std.proofs.Common.{◌≡◌, ℕ, ◌+◌, ◌-◌, ◌<◌, List, ◌∷◌, ◌++◌, length, set, replicate, drop, arith, append_assoc, ◌∙◌, ap, sym, add-one, drop-cons}
use Rattle.std.proofs.lemmas.List.{length-replicate, set-append_right, replicate-append-replicate}
use Rattle.filling.proofs.fill.Goals as goal

set_next : {A : Type 0} (l : List A) (i : ℕ) (v : A) → i < length l → set (replicate i v ++ drop i l) i v ≡ replicate (i + 1) v ++ drop (i + 1) l
set_next l i v h =
    let none : i - i ≡ 0 = omega arith in
    set-append_right (replicate i v) (drop i l) i i v (length-replicate i v) (omega arith)
    ∙ ap (λ k. replicate i v ++ set (drop i l) k v) none
    ∙ ap (λ r. replicate i v ++ set r 0 v) (drop-cons l i v h)
    ∙ ap (λ n. replicate i v ++ v ∷ drop n l) (sym (add-one i))
    ∙ sym (append_assoc (replicate i v) (replicate 1 v) (drop (i + 1) l))
    ∙ ap (λ r. r ++ drop (i + 1) l) (replicate-append-replicate i 1 v)

pub loop-x-preserved : goal.loop-x-preserved
loop-x-preserved g c =
    let h : c.loop-x.x-index < length c.args.out.now = omega arith in
    rw c.loop-x.invariant (set_next c.args.out.now c.loop-x.x-index c.args.value h)
