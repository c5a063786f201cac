use Rattle.worked.proofs.Computed.{first_table, cuts, resaves, small_tables, refusals, ancestors}
use Rattle.worked.proofs.examples_hold.Goals as goal

pub returns : goal.returns
returns c =
    record {
      first_table = first_table;
      cuts = cuts;
      resaves = resaves;
      small_tables = small_tables;
      refusals = refusals;
      ancestors = ancestors;
    }
