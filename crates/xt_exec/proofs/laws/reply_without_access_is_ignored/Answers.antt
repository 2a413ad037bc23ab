use Rattle.xt_exec.proofs.Replies.{ignored}
use Rattle.xt_exec.proofs.laws.reply_without_access_is_ignored.Goals as goal

pub returns : goal.returns
returns g = ignored
