-- The same run at other positions.
use Rattle.std.proofs.Common.{◌≡◌, ℕ, refl, sym, ap, ◌∙◌}
use Rattle.xt_trace.specs.declared.run.Run.{Run}
use Rattle.xt_replay.specs.Shown.{ReplayState, replay_at}

pub moved_on : (a b c : ReplayState) (p : ℕ) → b ≡ replay_at a b.position → c ≡ replay_at b p → c ≡ replay_at a c.position
moved_on a b c p same on =
    on ∙ ap (λ (x : ReplayState). replay_at x p) same ∙ ap (replay_at a) (sym (ap (λ (x : ReplayState). x.position) on))

pub moved_none : (a : ReplayState) → a ≡ replay_at a a.position
moved_none a = refl

pub moved_to : (a b c : ReplayState) (p : ℕ) → b ≡ replay_at a b.position → c ≡ replay_at b p → c ≡ replay_at a p
moved_to a b c p same on = on ∙ ap (λ (x : ReplayState). replay_at x p) same

pub arrived : (a b : ReplayState) (f : Run → ℕ) → b ≡ replay_at a b.position → b.position ≡ f b.run → b ≡ replay_at a (f a.run)
arrived a b f same is = same ∙ ap (replay_at a) (is ∙ ap (λ (x : ReplayState). f x.run) same)
