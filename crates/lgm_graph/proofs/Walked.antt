-- A traversal of the channels, step by step.
use Rattle.std.proofs.Common.{◌≡◌, ℕ, ◌+◌, ◌≤◌, Bool, true, false, List, [], ◌∷◌, ◌++◌, length, map}
use Rattle.std.proofs.Common.{append_assoc, Option, refl, sym, ap, subst, ◌∙◌, arith, length-append}
use Rattle.std.specs.List.{flat_map}
use Rattle.std.proofs.lemmas.Grind.{flat_map-append}
use Rattle.std.proofs.lemmas.List.{append-nil}
use Rattle.lgm_wire.specs.declared.point.Point.{Point}
use Rattle.lgm_check.specs.declared.row.ChannelRow.{ChannelRow}
use Rattle.lgm_store.specs.declared.channel_info.ChannelInfo.{ChannelInfo}
use Rattle.lgm_store.specs.ChannelInfo.{update_in, stored_at}
use Rattle.lgm_store.specs.Rows.{Rows, IsAscending, update_of}
use Rattle.lgm_graph.specs.declared.edge.Edge.{Edge}
use Rattle.lgm_graph.specs.declared.nodes.Nodes.{Nodes}
use Rattle.lgm_graph.specs.Edges.{PointEdge, carrying, takes_payments}
use Rattle.lgm_graph.specs.Graph.{Graph, IsGraphOf, IsNumbered}
use Rattle.lgm_graph.specs.inner.Sound.{graph_in, ShowsIn}
use Rattle.lgm_graph.specs.inner.Walk.{AreEdgesOf, KeepsNumbers, HasWalked, edges_of_channel}
use Rattle.lgm_graph.proofs.ByChannel.{by_channel}
use Rattle.lgm_store.proofs.ListLaws.{All-append, All-to}

-- an update of a channel in the traversal is that of its direction
pub stored_update : (rows : Rows) (channel : ChannelRow) (second : Bool)
    → update_in second (stored_at rows channel) ≡ update_of rows.updates channel.message.short_channel_id second
stored_update rows channel true = refl
stored_update rows channel false = refl

-- the next one is a channel with its updates
pub walked_own : (rows : Rows) (stored : ChannelInfo) (left : List ChannelInfo) (listed : List Edge) (graph : Graph)
    → HasWalked rows (stored ∷ left) listed graph → stored ≡ stored_at rows stored.channel
walked_own rows stored left listed graph walked = by walked.rest walked.left_is
  where
    by : (rest : List ChannelRow) → stored ∷ left ≡ map (stored_at rows) rest → stored ≡ stored_at rows stored.channel
    by [] is = absurd cc
    by (channel ∷ rest) is =
        let own : stored ≡ stored_at rows channel = cc in
        own ∙ ap (stored_at rows) (sym (ap (λ (h : ChannelInfo). h.channel) own))

module _ (known : Option (List ℕ)) (rows : Rows) (stored : ChannelInfo) (left : List ChannelInfo) (old new : Nodes) (before after : List Edge)
    (few : length new.points.keys ≤ length old.points.keys + 2) (kept : KeepsNumbers old.points.keys new.points.keys)
    (first : IsNumbered new.points.keys stored.channel.message.node_id_1) (second : IsNumbered new.points.keys stored.channel.message.node_id_2)
    (bare : ShowsIn (takes_payments known rows.nodes) [] old → ShowsIn (takes_payments known rows.nodes) [] new)
    (listed : (edges : List PointEdge) → AreEdgesOf edges old.points.keys before
    → AreEdgesOf (edges ++ edges_of_channel rows.updates stored.channel) new.points.keys after) where
  pub walked_more : HasWalked rows (stored ∷ left) before (graph_in known old) → HasWalked rows left after (graph_in known new)
  walked_more walked = by walked.rest walked.parts walked.left_is
    where
      more : flat_map (edges_of_channel rows.updates) (walked.done ++ stored.channel ∷ [])
          ≡ flat_map (edges_of_channel rows.updates) walked.done ++ edges_of_channel rows.updates stored.channel
      more =
          flat_map-append (edges_of_channel rows.updates) walked.done (stored.channel ∷ [])
          ∙ ap (λ l. flat_map (edges_of_channel rows.updates) walked.done
          ++ l) (append-nil (edges_of_channel rows.updates stored.channel))

      by : (rest : List ChannelRow) → rows.channels ≡ walked.done ++ rest
          → stored ∷ left ≡ map (stored_at rows) rest → HasWalked rows left after (graph_in known new)
      by [] parts is = absurd cc
      by (channel ∷ rest) parts is =
          let own : stored ≡ stored_at rows channel = cc in
          let others : left ≡ map (stored_at rows) rest = cc in
          let same : stored.channel ≡ channel = ap (λ (h : ChannelInfo). h.channel) own in
          record {
            done = walked.done ++ stored.channel ∷ [];
            rest = rest;
            parts = parts ∙ ap (λ c. walked.done ++ c ∷ rest) (sym same) ∙ sym (append_assoc walked.done (stored.channel ∷ []) rest);
            left_is = others;
            few = omega (arith, few, walked.few, length-append walked.done (stored.channel ∷ []));
            ends =
                All-append _ walked.done (stored.channel ∷ []) (All-to _ _ walked.done (λ c both.
                ((kept c.message.node_id_1 both.0).1, (kept c.message.node_id_2 both.1).1)) walked.ends)
                ((first, second), tt);
            bare = bare walked.bare;
            edges_are =
                subst (λ es. AreEdgesOf es new.points.keys after) (sym more)
                (listed (flat_map (edges_of_channel rows.updates) walked.done) walked.edges_are);
          }

-- the whole traversal, once the edges are in their lists
pub walked_all : (known : Option (List ℕ)) (rows : Rows) (listed : List Edge) (old new : Nodes)
    → IsAscending rows → HasWalked rows [] listed (graph_in known old)
    → new.points.keys ≡ old.points.keys
    → ((accepts : Point → Bool) → ShowsIn accepts [] old → (edges : List PointEdge) → AreEdgesOf edges old.points.keys listed → ShowsIn accepts edges new)
    → IsGraphOf rows (graph_in known new)
walked_all known rows listed old new ascend walked points shows = record {
  ends = rw (points, all) walked.ends;
  shows = subst (λ es. ShowsIn (takes_payments known rows.nodes) es new) edges
      (shows (takes_payments known rows.nodes) walked.bare (flat_map (edges_of_channel rows.updates) walked.done) walked.edges_are);
}
  where
    none : (rest : List ChannelRow) → [] ≡ map (stored_at rows) rest → rest ≡ []
    none [] is = refl
    none (channel ∷ rest) is = absurd cc

    all : rows.channels ≡ walked.done
    all = walked.parts ∙ ap (λ l. walked.done ++ l) (none walked.rest walked.left_is) ∙ append-nil walked.done

    edges : flat_map (edges_of_channel rows.updates) walked.done ≡ carrying rows
    edges = ap (flat_map (edges_of_channel rows.updates)) (sym all) ∙ by_channel rows.updates rows.channels ascend.updates ascend.channels
