use Rattle.strings.proofs.Cases.{near_call, put-begin, put-call, put-code, put-end, put-name, put-number, put-par, put-var, room-begin, room-call, room-code, room-end, room-name, room-number, room-par, room-var}
use Rattle.strings.proofs.put.Goals as goal

pub put_bytes-requires : goal.put_bytes-requires
put_bytes-requires c = search room-par

pub put_bytes-requires-in-Var : goal.put_bytes-requires-in-Var
put_bytes-requires-in-Var c = search room-var

pub put_bytes-requires-in-Name : goal.put_bytes-requires-in-Name
put_bytes-requires-in-Name c = search room-name

pub put_bytes-requires-in-Code : goal.put_bytes-requires-in-Code
put_bytes-requires-in-Code c = search room-code

pub put_bytes-requires-in-Number : goal.put_bytes-requires-in-Number
put_bytes-requires-in-Number c = search room-number

pub call_tag-requires : goal.call_tag-requires
call_tag-requires c = search near_call

pub put_bytes-requires-in-Call : goal.put_bytes-requires-in-Call
put_bytes-requires-in-Call c = search room-call

pub put_bytes-requires-in-Begin : goal.put_bytes-requires-in-Begin
put_bytes-requires-in-Begin c = search room-begin

pub put_bytes-requires-in-End : goal.put_bytes-requires-in-End
put_bytes-requires-in-End c = search room-end

pub returns-in-Par : goal.returns-in-Par
returns-in-Par c = search put-par

pub returns-in-Var : goal.returns-in-Var
returns-in-Var c = search put-var

pub returns-in-Name : goal.returns-in-Name
returns-in-Name c = search put-name

pub returns-in-Code : goal.returns-in-Code
returns-in-Code c = search put-code

pub returns-in-Number : goal.returns-in-Number
returns-in-Number c = search put-number

pub returns-in-Call : goal.returns-in-Call
returns-in-Call c = search put-call

pub returns-in-Begin : goal.returns-in-Begin
returns-in-Begin c = search put-begin

pub returns-in-End : goal.returns-in-End
returns-in-End c = search put-end
