use Rattle.od_index.proofs.Places.{each-place-has-site}
use Rattle.od_index.proofs.index_laws.places_have_sites.Goals as goal

pub returns : goal.returns
returns c = each-place-has-site
