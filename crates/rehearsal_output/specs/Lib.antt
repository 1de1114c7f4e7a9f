-- What the rehearsal prints (01, "Cases from the rig").
pub mod Output
pub mod Promise
pub mod Rehearsal
