-- The rules of usage that options keep.
use Rattle.std.proofs.Common.{◌≡◌, ◌≢◌, ℕ, ◌≤◌, ◌%◌, ◌&&◌, Bool, true, false, List, [], ◌∷◌, Option, Some, None, Result, Ok, Err, arith, codes, refl, rules}
use Rattle.std.specs.Prelude.{◌==◌, is_none, nat_le, ok_or, option_and_then, option_map, unwrap_or, if◌then◌else◌}
use Rattle.std.proofs.lemmas.Bool.Decides.{nat_tests}
use Rattle.clap.specs.Words.{App, Row, Text, first_of, new_app}
use Rattle.xt_map.specs.Regions.{region_of, is_executable}
use Rattle.xt_trace.specs.Validity.{IsValid, IsValidStack, most_turns}
use Rattle.xt_trace.specs.declared.options.Stack.{Stack}
use Rattle.xt_command_line.specs.Options.{AcceptsValid, OptionsNeedNoMemory, are_secrets_required, first_broken, is_entry, is_set, is_stack, keeping, options_or_refusal, options_with, options_without_secrets, judged_texts, options_in, record_app, record_options_of, run_app, run_options_of, said_or, unless_broken}
use Rattle.xt_command_line.specs.Arguments.{check_app, gen_app, generator_number_of, judged_vecbase, rigor_of, secret_options_of, secrets_app, uses_app, vecbase_of}
use Rattle.xt_command_line.specs.Turns.{chosen_turns, core_of, trace_app, turns_of}
use Rattle.xt_command_line.specs.MeaningAnswers.{and_then, answer_with}
use Rattle.xt_command_line.specs.declared.command.Rigor.TheVariants as rigor
use Rattle.xt_command_line.specs.Depths.{judged_depth, profile_app, profile_options_of}
use Rattle.xt_command_line.specs.Listings.{dis_app, judged_openings, listing_of, listing_with, openings_with, way_in}
use Rattle.xt_command_line.specs.Outcomes.{outcomes_app, outcomes_of, outcomes_with, place_of, shown_of, states_of, word_texts}
use Rattle.xt_command_line.specs.declared.outcomes.Shown.{Shown}
use Rattle.xt_command_line.specs.declared.outcomes.Shown.TheVariants as shown
use Rattle.xt_command_line.specs.Meaning.{NeedsNoMemory, meaning_by, command_named, without_options}
use Rattle.xt_command_line.specs.Numbers.{number_of}
use Rattle.xt_command_line.specs.Parts.{all_said, passing}
use Rattle.xt_command_line.specs.Roots.{roots_of}
use Rattle.xt_command_line.specs.Simple.{matched_by, rows_by}
use Rattle.xt_command_line.specs.TurnOrders.{is_short, order_in, turns_in}
use Rattle.xt_command_line.specs.declared.turn_orders.TurnOrder.TheVariants as order
use Rattle.xt_command_line.specs.Requirements.{required_in, requirements_in}
use Rattle.xt_command_line.specs.Spans.{are_small, shown_in, spans_in}
use Rattle.xt_command_line.specs.Secrets.{public_in, ranges_in, secrets_by, secrets_in}
use Rattle.xt_command_line.specs.declared.secrets.SecretOptions.{SecretOptions}
use Rattle.xt_command_line.specs.declared.command.Command.{Command}
use Rattle.xt_command_line.specs.declared.command.Command.TheVariants as command
use Rattle.xt_command_line.specs.declared.command.Name.{Name}
use Rattle.xt_command_line.specs.declared.command.Name.TheVariants as name
use Rattle.xt_command_line.specs.declared.command.Openings.{Openings}
use Rattle.xt_command_line.specs.declared.command.ProfileOptions.{ProfileOptions}
use Rattle.xt_command_line.specs.declared.command.Refusal.{Refusal}
use Rattle.xt_command_line.specs.declared.command.Refusal.TheVariants as refusal
use Rattle.xt_command_line.specs.declared.command.Way.TheVariants as way
use Rattle.xt_command_line.specs.declared.options.RunOptions.{RunOptions}

-- ---- running out of memory

ok_or-answers : {A : Type 0} (value : Option A) (rule : ℕ) → ok_or value (refusal.Usage rule) ≢ Err refusal.Memory
ok_or-answers None rule = λ e. search (rules, e)
ok_or-answers (Some a) rule = λ e. search (rules, e)

and_then-answers : {A B : Type 0} (r : Result A Refusal) (rest : A → Result B Refusal) → r ≢ Err refusal.Memory
    → ((a : A) → rest a ≢ Err refusal.Memory) → and_then r rest ≢ Err refusal.Memory
and_then-answers (Ok a) rest p q = q a
and_then-answers (Err r) rest p q = λ e. p (cc)

answer_with-answers : {A B : Type 0} (make : A → B) (r : Result A Refusal) → r ≢ Err refusal.Memory → answer_with make r ≢ Err refusal.Memory
answer_with-answers make (Ok o) no_memory = λ e. search (rules, e)
answer_with-answers make (Err r) no_memory = λ e. no_memory (cc)

if-answers : {A : Type 0} (b : Bool) (r s : Result A Refusal) → r ≢ Err refusal.Memory → s ≢ Err refusal.Memory → (if b then r else s) ≢ Err refusal.Memory
if-answers true r s p q = p
if-answers false r s p q = q

said-answers : {A : Type 0} (a : A) → ◌≢◌ {A = Result A Refusal} (Ok a) (Err refusal.Memory)
said-answers a = λ e. search (rules, e)

broken-answers : {A : Type 0} (rule : ℕ) → ◌≢◌ {A = Result A Refusal} (Err (refusal.Usage rule)) (Err refusal.Memory)
broken-answers rule = λ e. search (rules, e)

-- what is made of the rows that a command matches
by_rows-answers : {A : Type 0} (app : App) (words : List Text) (rest : List Row → Result A Refusal) → ((rows : List Row) → rest rows ≢ Err refusal.Memory)
    → and_then (matched_by app words) rest ≢ Err refusal.Memory
by_rows-answers app words rest answers = and_then-answers (matched_by app words) rest (ok_or-answers (rows_by app words) 3) answers

unless_broken-answers : {A : Type 0} (rule : Option ℕ) (o : A) → unless_broken rule o ≢ Err refusal.Memory
unless_broken-answers None o = λ e. search (rules, e)
unless_broken-answers (Some rule) o = λ e. search (rules, e)

judged-answers : (o : Option RunOptions) → options_or_refusal o ≢ Err refusal.Memory
judged-answers None = λ e. search (rules, e)
judged-answers (Some o) = unless_broken-answers _ o

order-answers : (seed list : Option Text) → order_in seed list ≢ Err refusal.Memory
order-answers None None = λ e. search (rules, e)
order-answers (Some seed) None = ok_or-answers (option_map order.Seeded (number_of seed)) 4
order-answers None (Some list) = ok_or-answers (option_map order.Listed (turns_in list)) 4
order-answers (Some seed) (Some list) = λ e. search (rules, e)

required-answers : (text : Option Text) → required_in text ≢ Err refusal.Memory
required-answers None = λ e. search (rules, e)
required-answers (Some text) = ok_or-answers (option_map Some (requirements_in text)) 4

shown-answers : (text : Option Text) → shown_in text ≢ Err refusal.Memory
shown-answers None = λ e. search (rules, e)
shown-answers (Some text) = ok_or-answers (option_map Some (passing are_small (spans_in text))) 4

without_secrets-answers : (rows : List Row) → options_without_secrets rows ≢ Err refusal.Memory
without_secrets-answers rows =
    and_then-answers (order_in (first_of (codes "seed") rows) (first_of (codes "order") rows)) _ (order-answers (first_of (codes "seed") rows) (first_of (codes "order") rows)) (λ order.
    and_then-answers (required_in (first_of (codes "require") rows)) _ (required-answers (first_of (codes "require") rows)) (λ required.
    and_then-answers (shown_in (first_of (codes "memory") rows)) _ (shown-answers (first_of (codes "memory") rows)) (λ memory.
    judged-answers (options_in rows order required memory))))

secrets_by-answers : (secret public : Option (List (ℕ × ℕ))) → secrets_by secret public ≢ Err refusal.Memory
secrets_by-answers (Some secret) (Some public) = λ e. search (rules, e)
secrets_by-answers (Some secret) None = λ e. search (rules, e)
secrets_by-answers None public = λ e. search (rules, e)

secrets-answers : (secret public : Option Text) → secrets_in secret public ≢ Err refusal.Memory
secrets-answers None None = λ e. search (rules, e)
secrets-answers None (Some public) = λ e. search (rules, e)
secrets-answers (Some secret) public = secrets_by-answers (ranges_in secret) (public_in public)

secrets_in-answers : (rows : List Row) → secrets_in (first_of (codes "secret") rows) (first_of (codes "public") rows) ≢ Err refusal.Memory
secrets_in-answers rows = secrets-answers (first_of (codes "secret") rows) (first_of (codes "public") rows)

options_with-answers : (o : RunOptions) (secrets : Option SecretOptions) → options_with o secrets ≢ Err refusal.Memory
options_with-answers o secrets =
    if-answers (is_none secrets && are_secrets_required o.required) (Err (refusal.Usage 10)) (Ok (keeping o secrets)) (broken-answers 10) (said-answers (keeping o secrets))

texts-answers : (rows : List Row) → judged_texts rows ≢ Err refusal.Memory
texts-answers rows =
    and_then-answers (options_without_secrets rows) _ (without_secrets-answers rows) (λ options.
    and_then-answers (secrets_in (first_of (codes "secret") rows) (first_of (codes "public") rows)) (options_with options) (secrets_in-answers rows) (options_with-answers options))

pub need_no_memory : OptionsNeedNoMemory
need_no_memory words = (by_rows-answers run_app words judged_texts texts-answers, by_rows-answers record_app words judged_texts texts-answers)

judged_vecbase-answers : (vecbase : Option ℕ) → judged_vecbase vecbase ≢ Err refusal.Memory
judged_vecbase-answers None = λ e. search (rules, e)
judged_vecbase-answers (Some v) = if-answers (v % 1024 == 0) (Ok v) (Err (refusal.Usage 7)) (said-answers v) (broken-answers 7)

vecbase-answers : (words : List Text) → vecbase_of words ≢ Err refusal.Memory
vecbase-answers words = by_rows-answers check_app words _ (λ rows. judged_vecbase-answers (said_or number_of 0x40080000 (first_of (codes "vecbase") rows)))

number-answers : (words : List Text) → generator_number_of words ≢ Err refusal.Memory
number-answers words = by_rows-answers gen_app words _ (λ rows. ok_or-answers (option_and_then number_of (first_of (codes "number") rows)) 4)

chosen-answers : (from to : Option ℕ) (core : Option (Option ℕ)) (accesses jumps frames : Bool) → chosen_turns from to core accesses jumps frames ≢ Err refusal.Memory
chosen-answers None to core accesses jumps frames = λ e. search (rules, e)
chosen-answers (Some from) None core accesses jumps frames = λ e. search (rules, e)
chosen-answers (Some from) (Some to) None accesses jumps frames = λ e. search (rules, e)
chosen-answers (Some from) (Some to) (Some core) accesses jumps frames = λ e. search (rules, e)

turns-answers : (words : List Text) → turns_of words ≢ Err refusal.Memory
turns-answers words = by_rows-answers trace_app words _ (λ rows.
    chosen-answers (said_or number_of 0 (first_of (codes "from") rows)) (said_or number_of 0xFFFFFFFF (first_of (codes "to") rows))
    (said_or core_of None (first_of (codes "core") rows)) (is_set (first_of (codes "accesses") rows)) (is_set (first_of (codes "jumps") rows)) (is_set (first_of (codes "frames") rows)))

rigor-answers : (words : List Text) → rigor_of words ≢ Err refusal.Memory
rigor-answers words = by_rows-answers uses_app words _ (λ rows.
    if-answers (is_set (first_of (codes "lenient") rows)) (Ok rigor.Lenient) (Ok rigor.Strict) (said-answers rigor.Lenient) (said-answers rigor.Strict))

secret_options-answers : (words : List Text) → secret_options_of words ≢ Err refusal.Memory
secret_options-answers words = by_rows-answers secrets_app words _ (λ rows.
    and_then-answers (secrets_in (first_of (codes "secret") rows) (first_of (codes "public") rows)) _ (secrets_in-answers rows) (λ secrets. ok_or-answers secrets 10))

abbrev profile_options : ℕ → Bool → ProfileOptions
profile_options d after = record { depth = d; after = after }

judged_depth-answers : (depth : Option ℕ) (after : Bool) → judged_depth depth after ≢ Err refusal.Memory
judged_depth-answers None after = λ e. search (rules, e)
judged_depth-answers (Some d) after =
    if-answers (nat_le 1 d && nat_le d 64) (Ok (profile_options d after)) (Err (refusal.Usage 4)) (said-answers (profile_options d after)) (broken-answers 4)

profile-answers : (words : List Text) → profile_options_of words ≢ Err refusal.Memory
profile-answers words = by_rows-answers profile_app words _ (λ rows.
    judged_depth-answers (said_or number_of 8 (first_of (codes "depth") rows)) (is_set (first_of (codes "after") rows)))

judged_openings-answers : (o : Option Openings) → judged_openings o ≢ Err refusal.Memory
judged_openings-answers None = λ e. search (rules, e)
judged_openings-answers (Some o) = unless_broken-answers _ o

way_in-answers : (flow : Bool) (vecbase entry1 roots : Option Text) → way_in flow vecbase entry1 roots ≢ Err refusal.Memory
way_in-answers true vecbase entry1 roots =
    let openings = openings_with vecbase entry1 (said_or roots_of [] roots) in
    answer_with-answers way.Flow (judged_openings openings) (judged_openings-answers openings)
way_in-answers false None None None = λ e. search (rules, e)
way_in-answers false None None (Some roots) = λ e. search (rules, e)
way_in-answers false None (Some entry1) roots = λ e. search (rules, e)
way_in-answers false (Some vecbase) entry1 roots = λ e. search (rules, e)

listing-answers : (words : List Text) → listing_of words ≢ Err refusal.Memory
listing-answers words = by_rows-answers dis_app words _ (λ rows.
    answer_with-answers (listing_with (is_set (first_of (codes "data") rows))) _
    (way_in-answers (is_set (first_of (codes "flow") rows)) (first_of (codes "vecbase") rows) (first_of (codes "entry1") rows) (first_of (codes "roots") rows)))

outcomes_with-answers : (timed any_time : Bool) (words : Option (List ℕ)) (states : Option ℕ) (which : Option Shown) (run : Result RunOptions Refusal) → run ≢ Err refusal.Memory
    → outcomes_with timed any_time words states which run ≢ Err refusal.Memory
outcomes_with-answers timed any_time None states which run no_memory = λ e. search (rules, e)
outcomes_with-answers timed any_time (Some words) None which run no_memory = λ e. search (rules, e)
outcomes_with-answers timed any_time (Some words) (Some states) None run no_memory = λ e. search (rules, e)
outcomes_with-answers timed any_time (Some words) (Some states) (Some which) (Ok run) no_memory = λ e. search (rules, e)
outcomes_with-answers timed any_time (Some words) (Some states) (Some which) (Err r) no_memory = λ e. no_memory (cc)

outcomes-answers : (words : List Text) → outcomes_of words ≢ Err refusal.Memory
outcomes-answers words = by_rows-answers outcomes_app words _ (λ rows.
    if-answers _ _ _
    (outcomes_with-answers _ _ (all_said place_of (word_texts rows)) (said_or states_of 1000000 (first_of (codes "states") rows)) (said_or shown_of shown.Nothing (first_of (codes "show") rows)) (judged_texts rows) (texts-answers rows))
    (broken-answers 3))

without_options-answers : (name : Text) (c : Command) (words : List Text) → without_options name c words ≢ Err refusal.Memory
without_options-answers name c words = answer_with-answers (λ _. c) (matched_by (new_app name) words) (ok_or-answers (rows_by (new_app name) words) 3)

meaning_by-answers : (command_named : Option Name) (words : List Text) → meaning_by command_named words ≢ Err refusal.Memory
meaning_by-answers None words = λ e. search (rules, e)
meaning_by-answers (Some name.Assemble) words = without_options-answers (codes "asm") command.Assemble words
meaning_by-answers (Some name.Convert) words = without_options-answers (codes "elf") command.Convert words
meaning_by-answers (Some name.Disassemble) words = answer_with-answers command.Disassemble (listing_of words) (listing-answers words)
meaning_by-answers (Some name.Map) words = without_options-answers (codes "map") command.Map words
meaning_by-answers (Some name.Check) words = answer_with-answers command.Check (vecbase_of words) (vecbase-answers words)
meaning_by-answers (Some name.Run) words = answer_with-answers command.Run (run_options_of words) (need_no_memory words).0
meaning_by-answers (Some name.Record) words = answer_with-answers command.Record (record_options_of words) (need_no_memory words).1
meaning_by-answers (Some name.Replay) words = λ e. search (rules, e)
meaning_by-answers (Some name.Migrate) words = without_options-answers (codes "migrate") command.Migrate words
meaning_by-answers (Some name.Events) words = without_options-answers (codes "events") command.Events words
meaning_by-answers (Some name.Counts) words = without_options-answers (codes "counts") command.Counts words
meaning_by-answers (Some name.Race) words = without_options-answers (codes "race") command.Race words
meaning_by-answers (Some name.Profile) words = answer_with-answers command.Profile (profile_options_of words) (profile-answers words)
meaning_by-answers (Some name.Uses) words = answer_with-answers command.Uses (rigor_of words) (rigor-answers words)
meaning_by-answers (Some name.Secrets) words = answer_with-answers command.Secrets (secret_options_of words) (secret_options-answers words)
meaning_by-answers (Some name.Trace) words = answer_with-answers command.Trace (turns_of words) (turns-answers words)
meaning_by-answers (Some name.Outcomes) words = answer_with-answers command.Outcomes (outcomes_of words) (outcomes-answers words)
meaning_by-answers (Some name.Generate) words = answer_with-answers command.Generate (generator_number_of words) (number-answers words)

pub meaning_needs_none : NeedsNoMemory
meaning_needs_none [] = λ e. search (rules, e)
meaning_needs_none (word ∷ rest) = meaning_by-answers (command_named word) (word ∷ rest)

-- ---- valid options

-- an address at which core 1 can begin
entry : ℕ
entry = 0x40080000

entry_is_executable : is_executable (region_of entry) ≡ true
unfolding entry region_of
entry_is_executable = refl

turns_kept : (turns0 turns1 : ℕ) (short : Bool) → turns0 ≤ most_turns → turns1 ≤ most_turns → short ≡ true → (nat_le turns0 most_turns && nat_le turns1 most_turns && short) ≡ true
turns_kept turns0 turns1 short few few1 is = grind (arith, nat_tests)

entry_kept : (address : Option ℕ) (d : ℕ) → is_executable (region_of (unwrap_or address d)) ≡ true → is_entry address ≡ true
entry_kept None d is = refl
entry_kept (Some a) d is = is

multiple_kept : (n k : ℕ) → n ≡ k → (n == k) ≡ true
multiple_kept n k is = grind (arith, nat_tests)

stack_kept : (s : Stack) → IsValidStack s → is_stack s ≡ true
stack_kept s v = let low = v.low in let high = v.high in let lo = v.lo_aligned in let hi = v.hi_aligned in let size = v.size in grind (arith, nat_tests)

both_kept : (a b : Bool) → a ≡ true → b ≡ true → (a && b) ≡ true
both_kept a b p q = rw (p, q) refl

all_kept : (a b c d : Bool) (o : RunOptions) → a ≡ true → b ≡ true → c ≡ true → d ≡ true
    → unless_broken (first_broken ((5, a) ∷ (6, b) ∷ (7, c) ∷ (8, d) ∷ [])) o ≡ Ok o
all_kept a b c d o p q r s = rw (p, q, r, s) refl

pub accepts : AcceptsValid
accepts o valid short =
    let v : IsValid _ = valid entry entry_is_executable in
    all_kept _ _ _ _ o (turns_kept o.turns0 o.turns1 (is_short o.order) v.turns0 v.turns1 short) (entry_kept o.entry1 entry v.entry1)
    (multiple_kept (o.vecbase % 1024) 0 v.vecbase)
    (both_kept _ _ (stack_kept o.stack0 v.stack0) (stack_kept o.stack1 v.stack1))
