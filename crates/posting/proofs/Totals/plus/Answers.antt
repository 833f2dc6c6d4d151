-- `posting::Totals/plus`.
use Rattle.std.proofs.Common.{rules}
use Rattle.posting.proofs.Amounts.{live_large, cancelled_large, cash_large, price_large, all_fit}
use Rattle.posting.proofs.Totals.plus.Goals as goal

pub returns-in_err-live : goal.returns-in_err-live
returns-in_err-live c = search (rules, live_large c.args.self c.args.other c.in_err-live.ensures)

pub returns-in_err-cancelled : goal.returns-in_err-cancelled
returns-in_err-cancelled c = search (rules, cancelled_large c.args.self c.args.other _ c.in_ok-live.ensures c.in_err-cancelled.ensures)

pub returns-in_err-cash : goal.returns-in_err-cash
returns-in_err-cash c =
    search (rules, cash_large c.args.self c.args.other _ c.in_ok-live.ensures _ c.in_ok-cancelled.ensures c.in_err-cash.ensures)

pub returns-in_err-price : goal.returns-in_err-price
returns-in_err-price c =
    search (rules, price_large c.args.self c.args.other _ c.in_ok-live.ensures _ c.in_ok-cancelled.ensures _ c.in_ok-cash.ensures c.in_err-price.ensures)

pub returns : goal.returns
returns c = all_fit c.args.self c.args.other _ c.in_ok-live.ensures _ c.in_ok-cancelled.ensures _ c.in_ok-cash.ensures _ c.in_ok-price.ensures
