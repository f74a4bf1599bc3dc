use Rattle.sql_rules_law.proofs.Needed as needed
use Rattle.sql_rules_law.proofs.premises_are_needed.Goals as goal

pub returns : goal.returns
returns c =
    record {
      one_shape = needed.one_shape;
      fits = needed.fits;
      misfits = needed.misfits;
      one_but_for_lengths = needed.one_but_for_lengths;
      lists_fit = needed.lists_fit;
      other_text = needed.other_text;
    }
