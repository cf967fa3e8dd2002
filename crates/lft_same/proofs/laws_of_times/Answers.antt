use Rattle.lft_same.proofs.{Known.known_law, Times.{inside_times, main_times, period_law, time_law}}
use Rattle.lft_same.proofs.laws_of_times.Goals as goal

pub returns : goal.returns
returns c = record {
  main = main_times c.args.files.now;
  inside = inside_times c.args.files.now;
  time = time_law c.args.files.now;
  known = known_law;
  period = period_law c.args.files.now;
}
