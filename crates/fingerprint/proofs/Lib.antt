-- What the steps of the code give: one number mixed, and the sum that it takes by subtracting; and cases of the definition.
pub mod Mixing
pub mod Cases
