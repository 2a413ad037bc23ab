use Rattle.xt_map.proofs.Ranged.{range_dram, range_rtc_fast_data, range_rtc_slow}
use Rattle.xt_map.proofs.laws.ranges_as_regions.Goals as goal

pub returns-clause-dram : goal.returns-clause-dram
returns-clause-dram c = range_dram

pub returns-clause-rtc_fast_data : goal.returns-clause-rtc_fast_data
returns-clause-rtc_fast_data c = range_rtc_fast_data

pub returns-clause-rtc_slow : goal.returns-clause-rtc_slow
returns-clause-rtc_slow c = range_rtc_slow
