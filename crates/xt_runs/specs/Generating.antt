-- The options of the image that is made of a number, and what `gen` writes of its run ('profile').
use Rattle.std.specs.Prelude.{ℕ, None, List, length, false}
use Rattle.xt_image.specs.ImageParts.{image_bytes}
use Rattle.xt_gen.specs.Generated.{generated_image}
use Rattle.xt_command_line.specs.declared.options.RunOptions.{RunOptions}
use Rattle.xt_command_line.specs.declared.turn_orders.TurnOrder.TheVariants as order
use Rattle.xt_report.specs.declared.whole.Whole.{Whole}
use Rattle.xt_report.specs.Summaries.{summary_text}

-- 200,000 turns for each core, and else what the words of `run` say where they say nothing
abbrev pub gen_options : RunOptions
gen_options = record {
  turns0 = 200000;
  turns1 = 200000;
  entry1 = None;
  vecbase = 0x40080000;
  stack0 = record { lo = 0x3FFF0000; hi = 0x3FFF8000 };
  stack1 = record { lo = 0x3FFF8000; hi = 0x40000000 };
  trace = false;
  events = false;
  race = false;
  profile = false;
  uses = false;
  required = None;
  memory = None;
  secrets = None;
  order = order.Free;
}

-- the summary of the image that is made of a number, and of its run
abbrev pub gen_text : ℕ → Whole → List ℕ
gen_text number w = summary_text number (length (image_bytes (generated_image number))) w
