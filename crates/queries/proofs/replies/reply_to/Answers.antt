use Rattle.queries.proofs.Showing.{compared, levelled, located}
use Rattle.queries.proofs.replies.reply_to.Goals as goal

pub returns-in-Level : goal.returns-in-Level
returns-in-Level c = search levelled

pub returns-in-Alike : goal.returns-in-Alike
returns-in-Alike c = search compared

pub returns-in-Body : goal.returns-in-Body
returns-in-Body c = search located
