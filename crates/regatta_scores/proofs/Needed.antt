-- Which tables fit all sentences of Appendix A but one.
use Rattle.std.proofs.Common.{ℕ}
use Rattle.std.proofs.Common.{get_or}
use Rattle.regatta_terms.specs.Rules.{RulesParts}
use Rattle.regatta_scores.specs.Journal.{Journal}
use Rattle.regatta_scores.specs.declared.table.Row.{Row}
use Rattle.regatta_scores.specs.AppendixA.{Working, IsRaceScored, IsRowOf}
use Rattle.regatta_scores.specs.Needed as need

-- ---- with all sentences asked for

module _ (rules : RulesParts) (journal : Journal) where
  race_all : (w : Working) (race : ℕ) → IsRaceScored rules journal w race →
      need.IsRaceScoredBy need.all rules journal w race
  race_all w race r = record {
    a3_finish = r.a3_finish;
    a3_time = r.a3_time;
    a5_2 = r.a5_2;
    a5_3 = r.a5_3;
    a4_a7 = r.a4_a7;
    dnc = r.dnc;
    coded = r.coded;
    nearest = r.nearest;
    penalties = r.penalties;
    no_better = r.no_better;
  }

  all_race : (w : Working) (race : ℕ) → need.IsRaceScoredBy need.all rules journal w race →
      IsRaceScored rules journal w race
  all_race w race r = record {
    a3_finish = r.a3_finish;
    a3_time = r.a3_time;
    a5_2 = r.a5_2;
    a5_3 = r.a5_3;
    a4_a7 = r.a4_a7;
    dnc = r.dnc;
    coded = r.coded;
    nearest = r.nearest;
    penalties = r.penalties;
    no_better = r.no_better;
  }

  row_all : (w : Working) (row : Row) → IsRowOf rules journal w row →
      need.IsRowBy need.all rules journal w row
  row_all w row r = record {
    a2_2 = r.a2_2;
    cells = λ race cell at. (let c = r.cells race cell at in record {
      unredressed = c.unredressed;
      a9_a = c.a9_a;
      a9_b = c.a9_b;
      a9_c = c.a9_c;
      a10 = c.a10;
      dne_counts = c.dne_counts;
    });
    as_many = r.as_many;
    worst = r.worst;
    total = r.total;
  }

  all_row : (w : Working) (row : Row) → need.IsRowBy need.all rules journal w row →
      IsRowOf rules journal w row
  all_row w row r = record {
    a2_2 = r.a2_2;
    cells = λ race cell at. (let c = r.cells race cell at in record {
      unredressed = c.unredressed;
      a9_a = c.a9_a;
      a9_b = c.a9_b;
      a9_c = c.a9_c;
      a10 = c.a10;
      dne_counts = c.dne_counts;
    });
    as_many = r.as_many;
    worst = r.worst;
    total = r.total;
  }

pub all_is_appendix_a : need.AllIsAppendixA
all_is_appendix_a rules journal table = (
  λ fits. record {
    races = fits.races;
    entries = fits.entries;
    working = fits.working;
    scores = λ race. all_race rules journal fits.working race (fits.scores race);
    rows = λ k d within. all_row rules journal fits.working (get_or table.rows k d)
        (fits.rows k d within);
    a8 = fits.a8;
    rank = fits.rank;
    tied = fits.tied;
    in_order = fits.in_order;
  },
  λ fits. record {
    races = fits.races;
    entries = fits.entries;
    working = fits.working;
    scores = λ race. race_all rules journal fits.working race (fits.scores race);
    rows = λ k d within. row_all rules journal fits.working (get_or table.rows k d)
        (fits.rows k d within);
    a8 = fits.a8;
    rank = fits.rank;
    tied = fits.tied;
    in_order = fits.in_order;
  },
)
