-- Without any one sentence of Appendix A another table fits.
use Rattle.regatta_scores.specs.Needed.{EachIsNeeded}
use Rattle.regatta_scores.proofs.NeededRaces.{a3_finish_needed, a3_time_needed, a5_2_needed, a5_3_needed}
use Rattle.regatta_scores.proofs.NeededRaces.{a4_a7_needed, dnc_needed, coded_needed, nearest_needed}
use Rattle.regatta_scores.proofs.NeededRaces.{penalties_needed, no_better_needed}
use Rattle.regatta_scores.proofs.NeededRows.{unredressed_needed, a9_a_needed, a9_b_needed, a9_c_needed}
use Rattle.regatta_scores.proofs.NeededRows.{a10_needed, dne_counts_needed, a2_2_needed, as_many_needed}
use Rattle.regatta_scores.proofs.NeededRows.{worst_needed, total_needed, races_needed, entries_needed}
use Rattle.regatta_scores.proofs.NeededRows.{a8_needed, rank_needed, tied_needed, in_order_needed}

pub each_is_needed : EachIsNeeded
each_is_needed = record {
  a3_finish = a3_finish_needed;
  a3_time = a3_time_needed;
  a5_2 = a5_2_needed;
  a5_3 = a5_3_needed;
  a4_a7 = a4_a7_needed;
  dnc = dnc_needed;
  coded = coded_needed;
  nearest = nearest_needed;
  penalties = penalties_needed;
  no_better = no_better_needed;
  unredressed = unredressed_needed;
  a9_a = a9_a_needed;
  a9_b = a9_b_needed;
  a9_c = a9_c_needed;
  a10 = a10_needed;
  dne_counts = dne_counts_needed;
  a2_2 = a2_2_needed;
  as_many = as_many_needed;
  worst = worst_needed;
  total = total_needed;
  races = races_needed;
  entries = entries_needed;
  a8 = a8_needed;
  rank = rank_needed;
  tied = tied_needed;
  in_order = in_order_needed;
}
