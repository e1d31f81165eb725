use Rattle.rv_mem.specs.Regions.{content, first_byte, little_endian, number_in}
use Rattle.rv_mem.proofs.Numbers.{number_in-spot, some_is}
use Rattle.rv_mem.proofs.region.find_number.Goals as goal

pub returns-clause-value : goal.returns-clause-value
returns-clause-value c =
    let rs = c.args.regions.now.items in
    let spot = c.in_ok-spot.spot in
    let region = c.index.result.now in
    some_is c.number.result (number_in c.args.n (first_byte rs) c.args.at) (little_endian c.args.n (content region) spot.place) c.number.ensures.value (number_in-spot rs c.args.at c.args.n spot region c.in_ok-spot.ensures c.index.ensures)
