use Rattle.scan.proofs.Division.{places_by_rows, places_most_lem}
use Rattle.scan.proofs.side.Side.places.Goals as goal

pub returns-clause-count : goal.returns-clause-count
returns-clause-count c = rw (c.length.ensures, c.length-2.ensures) (places_by_rows c.args.self.exponent)

pub returns-clause-most : goal.returns-clause-most
returns-clause-most c =
    rw (c.length.ensures, c.length-2.ensures, places_by_rows c.args.self.exponent) (places_most_lem c.args.self.exponent c.args.self.high)
