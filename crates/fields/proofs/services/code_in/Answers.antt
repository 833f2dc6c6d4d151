-- `fields::services::code_in`.
use Rattle.std.proofs.Common.{rules}
use Rattle.fields.proofs.CodeWays.{code_found}
use Rattle.fields.proofs.services.code_in.Goals as goal

pub returns : goal.returns
returns c = let found = code_found c.args.word in search (rules, found)
