use Rattle.std.proofs.Common.{sym, ◌∙◌, rules, tests, ne_eqb}
use Rattle.std.proofs.lemmas.Iterator.{YieldsList-from_slice, YieldsList-from_zip}
use Rattle.std.proofs.lemmas.Iterator.Search.{all_from_yields_List}
use Rattle.keywords.proofs.Same.{alike, folded-is, folded-differs}
use Rattle.keywords.proofs.same_folded.Goals as goal

pub returns-then-w-k : goal.returns-then-w-k
returns-then-w-k c =
    all_from_yields_List alike c.all.new.self _ _ c.all.ensures.ran
    (YieldsList-from_zip (YieldsList-from_slice c.args.w.now cc) (YieldsList-from_slice c.args.k.now cc)) (λ x b q k. search (rules, tests))
    ∙ folded-is _ _ c.if-w-k.true

pub returns-else-w-k : goal.returns-else-w-k
returns-else-w-k c = ne_eqb _ _ c.if-w-k.false ∙ sym (folded-differs c.args.w.now c.args.k.now c.if-w-k.false)
