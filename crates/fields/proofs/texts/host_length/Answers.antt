-- `fields::texts::host_length`.
use Rattle.fields.proofs.TextWays.{host_short, host_no_dot, host_is}
use Rattle.fields.proofs.texts.host_length.Goals as goal

pub returns-then-n-lt2 : goal.returns-then-n-lt2
returns-then-n-lt2 c = (search host_short, tt)

pub returns-then-not-contains : goal.returns-then-not-contains
returns-then-not-contains c =
    (host_no_dot c.args.f.now c.plain_run-n.result c.plain_run-n.ensures c.contains.result c.contains.ensures.value c.if-not-contains.true, tt)

pub returns : goal.returns
returns c =
    host_is c.args.f.now c.plain_run-n.result c.plain_run-n.ensures c.contains.result c.blank.result c.then_some.result c.contains.ensures.value c.if-not-contains.false c.blank.ensures c.then_some.ensures
