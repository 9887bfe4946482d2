use Rattle.std.proofs.Common.{true, false, refl, sym, ◌∙◌}
use Rattle.headers.proofs.Headers.{kind-told}
use Rattle.headers.proofs.header_kind.Goals as goal

pub returns-then-is_header : goal.returns-then-is_header
returns-then-is_header c = kind-told _ _ true _ (sym c.is_header.ensures ∙ c.if-is_header.true) refl

pub returns-then-is_header-2 : goal.returns-then-is_header-2
returns-then-is_header-2 c =
    kind-told _ _ false true (sym c.is_header.ensures ∙ c.if-is_header.false) (sym c.is_header-2.ensures ∙ c.if-is_header-2.true)

pub returns : goal.returns
returns c = kind-told _ _ false false (sym c.is_header.ensures ∙ c.if-is_header.false) (sym c.is_header-2.ensures ∙ c.if-is_header-2.false)
