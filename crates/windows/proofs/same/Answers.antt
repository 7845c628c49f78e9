-- `windows::same` meets its contract.
-- Assumes nothing.
use Rattle.std.proofs.Common.{rules, ◌≡◌}
use Rattle.windows.proofs.SameChannel.{same_channel, equal, passes}
use Rattle.windows.proofs.same.Goals as goal

pub returns : goal.returns
returns c =
    let test : c.eq.result ≡ same_channel c.args.a c.args.b = search rules in
    (λ t. equal c.args.a c.args.b (rw test at t), λ e. rw test (passes c.args.a c.args.b e))
