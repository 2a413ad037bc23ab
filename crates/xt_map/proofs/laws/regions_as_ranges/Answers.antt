use Rattle.xt_map.proofs.Ranged.{iram_range, dram_range, rtc_fast_data_range, rtc_slow_range}
use Rattle.xt_map.proofs.laws.regions_as_ranges.Goals as goal

pub returns-clause-iram : goal.returns-clause-iram
returns-clause-iram c = iram_range

pub returns-clause-dram : goal.returns-clause-dram
returns-clause-dram c = dram_range

pub returns-clause-rtc_fast_data : goal.returns-clause-rtc_fast_data
returns-clause-rtc_fast_data c = rtc_fast_data_range

pub returns-clause-rtc_slow : goal.returns-clause-rtc_slow
returns-clause-rtc_slow c = rtc_slow_range
