-- Which orders with moments can be continued until both cores have stopped.
use Rattle.std.proofs.Common.{◌≡◌, ℕ, zero, suc, ◌+◌, ◌<◌, Bool, true, false, cond, eqb}
use Rattle.std.proofs.Common.{Some, List, [], ◌∷◌, ◌++◌, drop, length, reverse, slice_get, refl, sym, ap, ◌∙◌, subst, arith}
use Rattle.std.specs.List.{All}
use Rattle.std.proofs.lemmas.List.{reverse-append, reverse-reverse}
use Rattle.std.proofs.lemmas.List.Elements.{All-append, All-cons, All-drop, All-head, All-nil, All-tail}
use Rattle.xt_map.specs.Memory.{constant_byte}
use Rattle.xt_search.specs.declared.graph.Graph.{Graph}
use Rattle.xt_search.specs.Ends.{AreMarks, IsSettled}
use Rattle.xt_search.specs.Graphs.{IsAt}
use Rattle.xt_search.specs.Worlds.{Reaches}
use Rattle.xt_moments.specs.Awaiting.{Awaits, Made, turn_in, turns_in}
use Rattle.xt_moments.proofs.Awaited.{after_turns}
use Rattle.xt_moments.specs.Moments.{IsMove, MomentCore, MomentWorld, is_armed, moved, world_past}
use Rattle.xt_moments.specs.declared.moves.Move.{Move}
use Rattle.xt_moments.specs.declared.moves.Move.TheVariants as move
use Rattle.xt_moment_search.specs.Covering.{Covers, CoversAt, HasRun, Leads, Led, LedIn, choices_in, chosen, core_choices, snapshot_of}
use Rattle.xt_moment_search.specs.Covering.{fire_choice, fire_choices, step_of, turn_choice}
use Rattle.xt_moment_search.specs.KnownCores.{core_of}
use Rattle.xt_moment_search.specs.Stuckness.{IsPath, MovesLead, NeverStuck, has_ended}
use Rattle.xt_moment_search.specs.Turns.{IsPassing, MakesMove}
use Rattle.xt_moment_search.specs.declared.ground.Ground.{Ground}
use Rattle.xt_moment_search.specs.declared.machine.Step.{Step}
use Rattle.xt_moment_search.specs.declared.machine.Step.TheVariants as step
use Rattle.xt_moment_search.specs.declared.machine.Run.{Run}
use Rattle.xt_moment_search.specs.declared.snapshots.Snapshot.{Snapshot}
use Rattle.xt_moment_search.specs.declared.worlds.World.{World}
use Rattle.xt_moment_search.proofs.Closed.{same_covers}

-- ---- each choice is a move

if_all : (b : Bool) (x : Move) → IsMove x → All IsMove (cond b (x ∷ []) [])
if_all true x h = All-cons IsMove x [] h (All-nil IsMove)
if_all false x h = All-nil IsMove

not_all : (b : Bool) (x : Move) → IsMove x → All IsMove (cond b [] (x ∷ []))
not_all true x h = All-nil IsMove
not_all false x h = All-cons IsMove x [] h (All-nil IsMove)

core_moves : (c : ℕ) (k : MomentCore) → c < 2 → All IsMove (core_choices c k)
core_moves c k few =
    All-append IsMove (turn_choice c k) (fire_choices c k) (not_all k.stopped (move.Turn c) few)
    (All-append IsMove (fire_choice c 0 k) (fire_choice c 1 k ++ fire_choice c 2 k)
    (if_all (is_armed 0 k) (move.Fires c 0) (few, omega arith))
    (All-append IsMove (fire_choice c 1 k) (fire_choice c 2 k)
    (if_all (is_armed 1 k) (move.Fires c 1) (few, omega arith))
    (if_all (is_armed 2 k) (move.Fires c 2) (few, omega arith))))

pub choices_move : (v : World) → All IsMove (choices_in v)
choices_move v = All-append IsMove (core_choices 0 (core_of v.side0.value))
    (core_choices 1 (core_of v.side1.value))
    (core_moves 0 (core_of v.side0.value) (omega arith)) (core_moves 1 (core_of v.side1.value)
    (omega arith))

pub chosen_moves : (rest : List Move) (passed n : ℕ) → All IsMove rest
    → MakesMove (chosen rest passed n)
chosen_moves [] passed n h = tt
chosen_moves (a ∷ []) passed n h = All-head IsMove a [] h
chosen_moves (a ∷ b ∷ []) passed n h = by_test (eqb n 0)
  where
    by_test : (t : Bool) → MakesMove (cond t (step.Makes a) (step.Makes b))
    by_test true = All-head IsMove a (b ∷ []) h
    by_test false = All-head IsMove b [] (All-tail IsMove a (b ∷ []) h)
chosen_moves (a ∷ b ∷ c ∷ ms) passed n h = by_test (eqb n 0)
  where
    by_test : (t : Bool) → MakesMove (cond t (step.Makes a) (step.Passes (passed + 1)))
    by_test true = All-head IsMove a (b ∷ c ∷ ms) h
    by_test false = tt

pub step_moves : (v : World) (n : ℕ) → MakesMove (step_of v n)
step_moves v n = chosen_moves (drop v.passed (choices_in v)) v.passed n
    (All-drop IsMove v.passed (choices_in v) (choices_move v))

-- ---- a path of steps makes moves

pub past_append : (code counts : ℕ → ℕ) (xs ys : List Move) (u : MomentWorld)
    → world_past code counts (xs ++ ys) u
    ≡ world_past code (λ n. counts (length xs + n)) ys (world_past code counts xs u)
past_append code counts [] ys u =
    let none : (n : ℕ) → n ≡ length {A = Move} [] + n = λ n. omega arith in
    let same : ◌≡◌ {A = ℕ → ℕ} counts (λ n. counts (length {A = Move} [] + n)) =
    λ i n. counts (none n i) in
    ap (λ (f : ℕ → ℕ). world_past code f ys u) same
past_append code counts (x ∷ xs) ys u =
    let more : (n : ℕ) → suc (length xs + n) ≡ length (x ∷ xs) + n = λ n. omega arith in
    let same : ◌≡◌ {A = ℕ → ℕ} (λ n. counts (suc (length xs + n)))
    (λ n. counts (length (x ∷ xs) + n)) = λ i n. counts (more n i) in
    past_append code (λ n. counts (suc n)) xs ys (moved code (counts 0) x u)
    ∙ ap (λ (f : ℕ → ℕ). world_past code f ys
    (world_past code (λ n. counts (suc n)) xs (moved code (counts 0) x u))) same

module _ (g : Ground) where
  abbrev Cover : World → MomentWorld → Type 0
  Cover v u = Covers g.opening.contents g.cleared.contents v u

  -- the moves of a step that led from v to w
  abbrev moves_led : (s : Step) (v w : World)
      → Led (constant_byte g.code) g.opening.contents g.cleared.contents s v w → List Move
  moves_led (step.Makes made) v w led = made ∷ turns_in led.1.turns
  moves_led (step.Passes passed) v w led = []
  moves_led step.Rests v w led = []

  pub turns_are_moves : (es : List Made) → All IsMove (turns_in es)
  turns_are_moves [] = All-nil IsMove
  turns_are_moves (e ∷ es) = All-cons IsMove (turn_in e.core) (turns_in es) (one e.core)
      (turns_are_moves es)
    where
      one : (c : ℕ) → IsMove (turn_in c)
      one zero = omega arith
      one (suc c) = omega arith

  made_all : (s : Step) (v w : World) → MakesMove s
      → (led : Led (constant_byte g.code) g.opening.contents g.cleared.contents s v w)
      → All IsMove (moves_led s v w led)
  made_all (step.Makes made) v w is led = All-cons IsMove made (turns_in led.1.turns) is
      (turns_are_moves led.1.turns)
  made_all (step.Passes passed) v w is led = All-nil IsMove
  made_all step.Rests v w is led = All-nil IsMove

  pub run_leads : (made : Move) (v w : World)
      → (l : Leads (constant_byte g.code) g.opening.contents g.cleared.contents made v w)
      → MovesLead g (made ∷ turns_in l.turns) v w
  run_leads made v w l = λ counts small u c.
      after_turns (constant_byte g.code) g.bytes (Cover w) l.turns
      (moved (constant_byte g.code) (counts 0) made u) (λ n. counts (suc n)) (λ n. small (suc n))
      (l.leads (counts 0) u (small 0) c)

  made_lead : (s : Step) (v w : World)
      → (led : Led (constant_byte g.code) g.opening.contents g.cleared.contents s v w)
      → MovesLead g (moves_led s v w led) v w
  made_lead (step.Makes made) v w led = run_leads made v w led.1
  made_lead (step.Passes passed) v w led = λ counts small u c.
      same_covers g.opening.contents g.cleared.contents v w u led.1 c
  made_lead step.Rests v w led = λ counts small u c.
      same_covers g.opening.contents g.cleared.contents v w u led.1 c

  both_lead : (xs ys : List Move) (v w x : World) → MovesLead g xs v w → MovesLead g ys w x
      → MovesLead g (xs ++ ys) v x
  both_lead xs ys v w x p q = λ counts small u c. subst (Cover x)
      (sym (past_append (constant_byte g.code) counts xs ys u))
      (q (λ n. counts (length xs + n)) (λ n. small (length xs + n))
      (world_past (constant_byte g.code) counts xs u) (p counts small u c))

  -- moves that lead from each world for which v stands to one for which w stands
  pub record Path (v w : World) : Type 0 where
    pub moves : List Move
    pub are_moves : All IsMove moves
    pub leads : MovesLead g moves v w

  pub no_path : (v : World) → Path v v
  no_path v = record {
    moves = [];
    are_moves = All-nil IsMove;
    leads = λ counts small u c. c;
  }

  step_path : (s : Step) (v w : World) → MakesMove s
      → Led (constant_byte g.code) g.opening.contents g.cleared.contents s v w → Path v w
  step_path s v w is led = record {
    moves = moves_led s v w led;
    are_moves = made_all s v w is led;
    leads = made_lead s v w led;
  }

  pub one_path : (n : ℕ) (v w : World) → LedIn g n v w → Path v w
  one_path n v w led = step_path (step_of v n) v w (step_moves v n) led

  pub both_paths : (v w x : World) → Path v w → Path w x → Path v x
  both_paths v w x p q = record {
    moves = p.moves ++ q.moves;
    are_moves = All-append IsMove p.moves q.moves p.are_moves q.are_moves;
    leads = both_lead p.moves q.moves v w x p.leads q.leads;
  }

  pub path_of : (order : List ℕ) (v w : World) → Reaches (LedIn g) order v w → Path v w
  path_of [] v w same = subst (Path v) same (no_path v)
  path_of (n ∷ ns) v w h = both_paths v h.0 w (one_path n v h.0 h.1) (path_of ns h.0 w h.2)

  -- ---- an order that is found last move first

  -- a step that makes no move
  pub no_moves : (s : Step) (v w : World) → IsPassing s
      → Led (constant_byte g.code) g.opening.contents g.cleared.contents s v w → IsPath g [] v w
  no_moves (step.Makes made) v w none led = absurd none
  no_moves (step.Passes passed) v w none led = record {
    are_moves = All-nil IsMove;
    leads = made_lead (step.Passes passed) v w led;
  }
  no_moves step.Rests v w none led = record {
    are_moves = All-nil IsMove;
    leads = made_lead step.Rests v w led;
  }

  -- a run that came to a copy of w
  pub ran_path : (made : Move) (v w : World) (r : Run) (back : List Move) → IsMove made
      → HasRun (constant_byte g.code) g.opening.contents g.cleared.contents made (snapshot_of v) r
      → r.at ≡ snapshot_of w → back ≡ reverse r.trail.items → IsPath g (reverse back) v w
  ran_path made v w r back is h at backward =
      let code = constant_byte g.code in
      let opening = g.opening.contents in
      let cleared = g.cleared.contents in
      let ts = h.lead.turns in
      let l : Leads code opening cleared made v w = record {
        turns = ts;
        leads = λ count u small c.
            subst (λ (x : Snapshot). Awaits code (CoversAt opening cleared x) ts
            (moved code count made u)) at (h.lead.leads count u small c);
      } in
      let trail : made ∷ turns_in ts ≡ reverse back =
      sym h.trail ∙ sym (reverse-reverse r.trail.items) ∙ ap reverse (sym backward) in
      subst (λ (ms : List Move). IsPath g ms v w) trail (record {
        are_moves = All-cons IsMove made (turns_in ts) is (turns_are_moves ts);
        leads = run_leads made v w l;
      })

  pub more_moves : (back order : List Move) → All IsMove (reverse back)
      → All IsMove (reverse order) → All IsMove (reverse (order ++ back))
  more_moves back order p q =
      subst (All IsMove) (sym (reverse-append order back))
      (All-append IsMove (reverse back) (reverse order) p q)

  pub paths_back : (back order : List Move) (v w x : World) → IsPath g (reverse back) v w
      → IsPath g (reverse order) w x → IsPath g (reverse (order ++ back)) v x
  paths_back back order v w x p q =
      subst (λ (ms : List Move). IsPath g ms v x) (sym (reverse-append order back)) (record {
        are_moves = All-append IsMove (reverse back) (reverse order) p.are_moves q.are_moves;
        leads = both_lead (reverse back) (reverse order) v w x p.leads q.leads;
      })

-- ---- marked worlds

pub get_within : {X : Type 0} (xs : List X) (k : ℕ) (y : X) → slice_get xs k ≡ Some y → k < length xs
get_within [] k y e = absurd cc
get_within (x ∷ xs) zero y e = omega arith
get_within (x ∷ xs) (suc k) y e = let less = get_within xs k y e in omega (arith, less)

module _ (g : Ground) (graph : Graph World) (ms : List Bool)
    (are : AreMarks (LedIn g) has_ended graph ms) where
  pub never_stuck : ((k : ℕ) (v : World) → IsAt graph.kept.items k v → v.passed ≡ 0
      → slice_get ms k ≡ Some true) → NeverStuck g graph
  never_stuck marked k v h p =
      let e = are.can_end k v (marked k v h p) h in
      let path = path_of g e.0 v e.1 e.3 in
      record {
        moves = path.moves;
        are_moves = path.are_moves;
        end = e.1;
        leads = path.leads;
        ended = e.4;
      }

  pub all_settled : ((k : ℕ) → k < length graph.kept.items → IsSettled has_ended graph ms k)
      → (k : ℕ) → slice_get ms k ≡ Some false → IsSettled has_ended graph ms k
  all_settled settled k e =
      let within = get_within ms k false e in
      let long = are.as_long in
      settled k (omega (arith, within, long))
