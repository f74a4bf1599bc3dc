use Rattle.std.proofs.Common.{◌↔◌, drop, map}
use Rattle.sql_read_tree.specs.View.{place_of}
use Rattle.sql_read_writer.specs.All as all
use Rattle.sql_read_writer.proofs.fits.fits_places.Given as goal

abbrev pub invariant-loop-place : goal.invariant-loop-place
invariant-loop-place l = all.Places (map place_of (drop l.place-index l.places)) ↔ all.Places (map place_of l.places)
