use Rattle.live_tables.specs.BeforeImageCallLemmas.{commit_keeps_before_images}
use Rattle.live_tables.proofs.read_laws.commit_keeps_before_images.Goals as goal

pub returns : goal.returns
returns c = commit_keeps_before_images
