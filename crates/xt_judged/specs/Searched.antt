-- Carries a proof; nothing that a reader must believe.
-- A search over the scenes of an image.
use Rattle.std.specs.Prelude.{◌≡◌, Bool}
use Rattle.xt_image.specs.declared.image.Image.{Image}
use Rattle.xt_trace.specs.declared.options.Options.{Options}
use Rattle.xt_map.specs.Code.{AreBytes}
use Rattle.xt_core.specs.Runs.{code_of, memory_of}
use Rattle.xt_search.specs.Graphs.{IsGraph, OpensWith}
use Rattle.xt_judged.specs.declared.joint.JointSearch.{JointSearch}
use Rattle.xt_judged.specs.declared.scene.Scene.{Scene}
use Rattle.xt_judged.specs.Kept.{IsFirst, Leads}

-- a search of this image and these options
pub record IsSearch (image : Image) (o : Options) (timed : Bool) (s : JointSearch) : Type 0 where
  pub bytes : AreBytes (code_of image)
  pub code : s.machine.timed.code ≡ image.segments
  pub opening : s.machine.timed.opening.contents ≡ memory_of image o
  pub is_timed : s.machine.timed.timed ≡ timed
  pub graph : IsGraph (Leads (code_of image) timed s.machine.most_alone (memory_of image o)) s.graph
  pub first : (w : Scene) × OpensWith s.graph w × IsFirst image o timed w
