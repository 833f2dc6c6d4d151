-- `batch::enter`.
use Rattle.batch.proofs.CallWays.{enter_size, enter_refused, enter_full, enter_acceptable, enter_countable, enter_done}
use Rattle.batch.proofs.enter.Goals as goal

pub returns-then-body-size : goal.returns-then-body-size
returns-then-body-size c = enter_size _ _ _ _ _ _ _ _ c.requires c.body_length-size.ensures c.if-body-size.true

pub returns-in_err-action_answer : goal.returns-in_err-action_answer
returns-in_err-action_answer c = enter_refused _ _ _ _ _ _ _ _ c.requires c.body_length-size.ensures c.if-body-size.false _ c.action_answer.ensures _ c.in_err-action_answer.was _ c.from_residual.ensures.1

pub returns-then-journal-c : goal.returns-then-journal-c
returns-then-journal-c c = enter_full _ _ _ _ _ _ _ _ c.requires c.body_length-size.ensures c.if-body-size.false _ c.action_answer.ensures _ c.in_ok-action_answer.was c.if-journal-c.true

pub counts_after-counts-requires : goal.counts_after-counts-requires
counts_after-counts-requires c = enter_countable _ _ _ _ _ _ _ _ c.requires c.body_length-size.ensures c.if-body-size.false _ c.action_answer.ensures _ c.in_ok-action_answer.was

pub act-requires : goal.act-requires
act-requires c = enter_acceptable _ _ _ _ _ _ _ _ c.requires c.body_length-size.ensures c.if-body-size.false _ c.action_answer.ensures _ c.in_ok-action_answer.was

pub returns : goal.returns
returns c = enter_done _ _ _ _ _ _ _ _ c.requires c.body_length-size.ensures c.if-body-size.false _ c.action_answer.ensures _ c.in_ok-action_answer.was _ _ _ c.if-journal-c.false c.counts_after-counts.ensures c.act.ensures c.put_entry.ensures
