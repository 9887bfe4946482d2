-- The text anew, or the line that says that it is not taken.
use Rattle.std.proofs.Common.{sym, ◌∙◌, arith}
use Rattle.layout.specs.Text.{bytes}
use Rattle.digits.proofs.Appending.{appends_same}
use Rattle.report.proofs.Parts.{line_is}
use Rattle.old_text.proofs.Taken.{taken-fits}
use Rattle.rewriting.proofs.Anew.{output-anew, output-line}
use Rattle.rewrite.proofs.output.put_anew.Goals as goal

pub put_text-requires : goal.put_text-requires
put_text-requires c = omega (arith, taken-fits c.args.text.now (sym c.is_taken.ensures ∙ c.if-is_taken.true))

pub returns-then-is_taken : goal.returns-then-is_taken
returns-then-is_taken c = appends_same c.put_text.ensures (sym (output-anew c.args.text.now (sym c.is_taken.ensures ∙ c.if-is_taken.true)))

pub returns-else-is_taken : goal.returns-else-is_taken
returns-else-is_taken c =
    appends_same c.bytes.ensures (line_is (bytes "cannot read") ∙ sym (output-line c.args.text.now (sym c.is_taken.ensures ∙ c.if-is_taken.false)))
