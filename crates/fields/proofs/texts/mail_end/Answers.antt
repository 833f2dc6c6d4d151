-- `fields::texts::mail_end`.
use Rattle.std.proofs.Common.{◌∙◌}
use Rattle.fields.proofs.TextWays.{mail_no_local, mail_full, mail_no_at, mail_no_host, mail_is}
use Rattle.fields.proofs.texts.mail_end.Goals as goal

pub returns-then-at-eq0 : goal.returns-then-at-eq0
returns-then-at-eq0 c = search mail_no_local

pub returns-then-at-f : goal.returns-then-at-f
returns-then-at-f c = search mail_full

pub returns-then-f-at-ne64 : goal.returns-then-f-at-ne64
returns-then-f-at-ne64 c = mail_no_at c.args.f.now c.plain_run-at.result c.plain_run-at.ensures c.if-f-at-ne64.true

pub returns-in_err-host : goal.returns-in_err-host
returns-in_err-host c = c.from_residual.ensures ∙ mail_no_host c.args.f.now c.plain_run-at.result c.plain_run-at.ensures c.if-at-eq0.false c.if-f-at-ne64.false c.host_length.result c.host_length.ensures.0 c.in_err-host.was

pub returns : goal.returns
returns c = mail_is c.args.f.now c.plain_run-at.result c.plain_run-at.ensures c.if-at-eq0.false c.if-f-at-ne64.false c.host_length.result c.host_length.ensures.0 c.in_ok-host.host c.in_ok-host.was
