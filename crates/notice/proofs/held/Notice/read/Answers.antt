use Rattle.std.proofs.Common.{sym, ◌∙◌}
use Rattle.std.proofs.lemmas.Bool.{cond-true, cond-false}
use Rattle.notice.specs.Notices.{read_notice}
use Rattle.notice.proofs.held.Notice.read.Goals as goal

pub returns-then-is_too_long : goal.returns-then-is_too_long
unfolding read_notice
returns-then-is_too_long c = sym (cond-true _ _ _ (sym c.is_too_long.ensures ∙ c.if-is_too_long.true))

pub returns : goal.returns
unfolding read_notice
returns c = c.in_ok-found.ensures ∙ sym (cond-false _ _ _ (sym c.is_too_long.ensures ∙ c.if-is_too_long.false))
