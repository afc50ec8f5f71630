use Rattle.run_laws.proofs.Threading.{run_commits, run_tables, run_clear, run_position}
use Rattle.run_laws.proofs.laws.threaded_is_serial.Goals as goal

pub returns : goal.returns
returns c g rows old new o run valid = (
  run_commits g rows old new o run,
  run_tables g rows old new o run valid,
  run_clear g rows old new o run valid,
  run_position g rows old new o run,
)
