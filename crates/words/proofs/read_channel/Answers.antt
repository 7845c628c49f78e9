use Rattle.std.proofs.Common.{rules, Some}
use Rattle.words.specs.Words.{read_channel}
use Rattle.words.proofs.RoundTrip.{read_back}
use Rattle.words.proofs.read_channel.Goals as goal

pub returns-clause-value : goal.returns-clause-value
unfolding read_channel
returns-clause-value c = search rules

pub returns-clause-back : goal.returns-clause-back
returns-clause-back c =
    read_back c.args.mark c.args.text.now
    (Some (
      record {
        signal = c.in_ok-signal.signal;
        prn = c.in_ok-prn.prn;
        place = c.in_ok-place.place;
        epoch = c.in_ok-epoch.epoch;
        delay = c.in_ok-delay.delay;
        first = c.in_ok-first.first;
        second = c.in_ok-second.second;
        third = c.in_ok-third.third;
        fourth = c.in_ok-fourth.fourth;
      },
      c.in_ok-fourth.rest,
    ))
    (returns-clause-value c)
