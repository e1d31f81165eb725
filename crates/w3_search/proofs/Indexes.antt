-- The index of a changed list of nodes.
use Rattle.std.proofs.Common.{◌≡◌, ℕ, List, length, map, sym, ◌∙◌, arith}
use Rattle.std.specs.Prelude.{Vec}
use Rattle.std.specs.Vec.{with_items}
use Rattle.std.specs.declared.alloc.Global.{Global}
use Rattle.std.proofs.lemmas.List.{with_items_is}
use Rattle.indexmap.specs.IndexSet.{IndexSet}
use Rattle.w3_search.specs.declared.node.Node.{Node}
use Rattle.w3_search.specs.declared.place.NodePlace.{NodePlace}
use Rattle.w3_search.specs.Nodes.{active_of, place_of, waiting_of}
use Rattle.w3_search.specs.Index.{IsIndexed}

pub items_are : (list : Vec Node Global) (ws : List Node) → length ws ≡ length list.items → (with_items list ws).items ≡ ws
items_are list ws len = with_items_is list ws (omega arith)

-- the index serves the changed list too
pub indexed : {S : Type 0} (ns ms : List Node) (index : IndexSet NodePlace S) (waiting active waiting' active' : List ℕ)
    → IsIndexed ns index waiting active → length ms ≡ length ns → map place_of ms ≡ map place_of ns → waiting' ≡ waiting_of ms → active' ≡ active_of ms → IsIndexed ms index waiting' active'
indexed ns ms index waiting active waiting' active' is len places waits tests = record {
  few = omega (arith, is.few);
  places = is.places ∙ sym places;
  waits = waits;
  under_test = tests;
  spare_places = omega (arith, is.spare_places);
}
