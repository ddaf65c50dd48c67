pub mod Disjoint
pub mod Boxing
pub mod Box_facts
pub mod Settled_boxes
