use Rattle.std.proofs.Common.{sym, ◌∙◌}
use Rattle.headers.proofs.Headers.{header-blank, header-begun, first_followed, four_taken}
use Rattle.headers.proofs.is_header.Goals as goal

pub returns-then-not-word_first : goal.returns-then-not-word_first
returns-then-not-word_first c = sym (header-blank _ _ (sym c.word_first.ensures ∙ c.if-not-word_first.true))

pub returns : goal.returns
returns c =
    c.ended.ensures ∙ four_taken c.keyword-second.ensures c.keyword-third.ensures c.keyword-fourth.ensures c.keyword-fifth.ensures
    ∙ first_followed _ _ c.first_word-first.result c.first_word-first.ensures
    ∙ header-begun _ _ (sym c.word_first.ensures ∙ c.if-not-word_first.false)
