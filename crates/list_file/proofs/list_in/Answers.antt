use Rattle.checker.proofs.Answers.{settled-few}
use Rattle.list_file.proofs.Files.{front-as, reply-listed}
use Rattle.list_file.proofs.list_in.Goals as goal

pub put_reply-requires : goal.put_reply-requires
put_reply-requires c = search settled-few

pub returns : goal.returns
returns c = front-as _ _ _ _ _ c.put_reply.ensures
    (reply-listed c.args.file.now c.judge_fields-judged.new.store c.judge_fields-judged.new.refs c.judge_fields-judged.new.words c.judge_fields-judged.result
    c.requires.0 c.requires.1 c.judge_fields-judged.ensures)
