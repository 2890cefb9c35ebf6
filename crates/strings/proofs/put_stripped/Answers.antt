use Rattle.strings.proofs.Cases.{kept-code, kept-name, kept-number, kept-par, kept-var, put-kept, room-kept}
use borrow.Author.Rules.{rules}
use Rattle.strings.proofs.put_stripped.Goals as goal

pub put-requires : goal.put-requires
put-requires c = (search (room-kept, kept-par), search rules)

pub put-requires-in-Var : goal.put-requires-in-Var
put-requires-in-Var c = (search (room-kept, kept-var), search rules)

pub put-requires-in-Name : goal.put-requires-in-Name
put-requires-in-Name c = (search (room-kept, kept-name), search rules)

pub put-requires-in-Code : goal.put-requires-in-Code
put-requires-in-Code c = (search (room-kept, kept-code), search rules)

pub put-requires-in-Number : goal.put-requires-in-Number
put-requires-in-Number c = (search (room-kept, kept-number), search rules)

pub returns-in-Par : goal.returns-in-Par
returns-in-Par c = search (put-kept, kept-par)

pub returns-in-Var : goal.returns-in-Var
returns-in-Var c = search (put-kept, kept-var)

pub returns-in-Name : goal.returns-in-Name
returns-in-Name c = search (put-kept, kept-name)

pub returns-in-Code : goal.returns-in-Code
returns-in-Code c = search (put-kept, kept-code)

pub returns-in-Number : goal.returns-in-Number
returns-in-Number c = search (put-kept, kept-number)
